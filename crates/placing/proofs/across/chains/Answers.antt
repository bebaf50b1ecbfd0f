use Rattle.std.proofs.Common.{◌≡◌, ℕ, ◌+◌, ◌-◌, ◌<◌, ◌≤◌, length, get_or, subst, arith}
use borrow.Rule.Slice.PartMut.{put_mid}
use Rattle.group.specs.Group.{mate_of}
use Rattle.group.specs.Arranged.{meaning_of}
use Rattle.placing.specs.Codes.{image_of}
use Rattle.group.proofs.LawfulSheet.{mate_inside, lawful_arranged}
use Rattle.placing.proofs.LentBack.{front_stays, back_mirrors}
use Rattle.placing.proofs.WorkList.{given_across, small_befores}
use Rattle.placing.proofs.across.chains.Goals as goal

pub returns-in_err-longest : goal.returns-in_err-longest
returns-in_err-longest g c = rw c.from_residual.ensures (record { found = tt; finishes = λ clean sizes. c.in_err-longest.ensures.finishes clean sizes })

pub returns : goal.returns
returns g c =
    let V = g.row.T.Denot in
    let k = g.T.Length.kind in
    let o = g.B.Book.order c.args.cells.now.book.now in
    let group = c.args.cells.now.group.now in
    let m = meaning_of c.args.cells.now in
    let lawful = lawful_arranged c.args.cells.now (g.met.B.Book.lawful c.args.cells.now.book.now) in
    let w : ℕ → V = λ a. get_or c.args.widths.now a k.zero in
    let values = c.node_values.new.values in
    let value : ℕ → V = λ u. get_or values u k.zero in
    let n = c.count-n.result in
    let images = c.mirror_images.new.images in
    let list = put_mid n (length values - n) values images in
    let work : ℕ → V = λ u. get_or list u k.zero in
    let count = c.count-n.ensures in
    let within : n ≤ length values = omega (arith, c.node_values.auto.values, c.requires.work) in
    let befores : (a : ℕ) → a < o.count → work a ≡ value a = λ a here. front_stays n values images within a k.zero (omega arith) in
    let afters : (a : ℕ) → a < o.count → work (o.count + a) ≡ value (image_of o.count a (mate_of group a)) =
    λ a here.
    subst (λ (i : ℕ). work (i + a) ≡ value (image_of i a (mate_of group a))) count
    (back_mirrors n values c.copy_from_slice.new.self images within k.zero (mate_of group)
    (λ b d told. let cell = mate_inside group b d told in omega (arith, c.args.cells.now.counted))
    c.copy_from_slice.ensures.after
    (λ b low. c.mirror_images.ensures b (omega (arith, c.args.cells.now.counted)))
    a (omega arith))
    in
    record {
      found = given_across {m = m} k value work c.in_ok-longest.longest befores lawful w afters c.in_ok-longest.ensures.found;
      finishes = λ clean sizes. small_befores {m = m} k value work c.in_ok-longest.longest befores (c.in_ok-longest.ensures.finishes clean sizes);
    }
