-- Rounding, what is under a cell, and whether two nodes are one: all decided.
use Rattle.std.proofs.Common.{◌≡◌, ℕ, sym, ap, arith}
use Rattle.placement.specs.Meaning.{Meaning}
use Rattle.placement.specs.Downward.{Under}
use Rattle.placement.specs.Across.{Node, cell, image}
use Rattle.placement.specs.Rule.{RightMember, RoundsUp}
use Rattle.worked.proofs.Tests.{Test, like, never, both, either, less, equal, some, named_so}
use Rattle.worked.proofs.Orders.{left?, above?}

abbrev pub right? : (m : Meaning) (a : ℕ) → Test (RightMember m a)
right? m a =
    like (λ h. (h.0, record { cell = h.2.apart.b_in; told = h.1 }, h.2)) (λ h. (h.0, h.1.told, h.2))
    (named_so (m.mate a) (λ b. left? m.order b a))

abbrev pub up? : (m : Meaning) (a : ℕ) → Test (RoundsUp m a)
up? m a =
    either (right? m a)
    (like (λ h. (h.0, h.2.0, h.2.1)) (λ h. (h.0, h.2.apart.a_in, (h.1, h.2)))
    (some m.order.count (λ c. both (right? m c) (left? m.order c a))))

abbrev pub under? : (m : Meaning) (a b : ℕ) → Test (Under m a b)
under? m a b =
    either (above? m.order a b)
    (like (λ h. (h.1.0, record { cell = h.0; told = h.1.1 }, h.1.2)) (λ h. (h.1.cell, (h.0, h.1.told, h.2)))
    (both (less a m.order.count) (named_so (m.mate a) (λ c. above? m.order c b))))

pub same_cell_told : {a b : ℕ} → cell a ≡ cell b → a ≡ b
same_cell_told {a} {b} e = cc

pub same_image : {a b : ℕ} → image a ≡ image b → a ≡ b
same_image {a} {b} e = cc

pub cell_not_image : {a b : ℕ} → cell a ≡ image b → ⊥
cell_not_image {a} {b} e = let z : ◌≡◌ {A = ℕ} 0 1 = cc in omega arith

abbrev pub same_node? : (u v : Node) → Test (u ≡ v)
same_node? (cell a) (cell b) = like (ap cell) same_cell_told (equal a b)
same_node? (cell a) (image b) = never cell_not_image
same_node? (image a) (cell b) = never (λ e. cell_not_image (sym e))
same_node? (image a) (image b) = like (ap image) same_image (equal a b)
