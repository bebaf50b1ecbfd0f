-- The work list: the values of the cells and then of their images are what stands before and after each.
use Rattle.std.proofs.Common.{◌≡◌, ℕ, ◌+◌, ◌*◌, sym, ap, ◌∙◌, subst, arith}
use Rattle.length.specs.Kind.{Kind}
use Rattle.placement.specs.Meaning.{Meaning, Cell, Lawful}
use Rattle.placement.specs.Across.{Node, Image, of_mate, of_free, In}
use Rattle.placement.proofs.Images.{image_is_node}
use Rattle.placing.specs.Values.{GivenAcross, GivenNodes, SmallAcross}
use Rattle.placing.proofs.NodeCodes.{code, low_is_cell, node_of_code, code_below}
use Rattle.placing.proofs.AcrossGraph.{facing_number, image_code}

of_cell_lem : {m : Meaning} {a : ℕ} {u : Node} → Image m a u → Cell m a
of_cell_lem (of_mate mate) = mate.cell
of_cell_lem (of_free free) = free.cell

module _ {m : Meaning} {V : Type 0} (k : Kind V) (value work : ℕ → V) (longest : V) (befores : (a : ℕ) → Cell m a → work a ≡ value a) where
  pub given_across : Lawful m → (w : ℕ → V) → ((a : ℕ) → Cell m a → work (m.order.count + a) ≡ value (facing_number m a)) → GivenNodes k m w value longest → GivenAcross k m w work (λ (a : ℕ). work (m.order.count + a)) longest
  given_across lawful w afters nodes = record {
    longest_is = nodes.longest_is;
    before_is = λ a here.
        rw (befores a here) (subst (λ (u : Node). In k m w u (value a)) (low_is_cell m.order.count a here) (nodes.each_is a (omega arith)));
    after_is = λ a u its.
        let there = image_is_node lawful its in
        let number : ℕ = code m.order.count u in
        rw (afters a (of_cell_lem its) ∙ ap value (sym (image_code lawful its)))
        (subst (λ (v : Node). In k m w v (value number)) (node_of_code m u there) (nodes.each_is number (code_below m u there)));
  }

  pub small_befores : SmallAcross k m (2 * m.order.count) value longest → SmallAcross k m m.order.count work longest
  small_befores small = record {
    each_small = λ a here. rw (befores a here) (small.each_small a (omega arith));
    longest_small = small.longest_small;
  }
