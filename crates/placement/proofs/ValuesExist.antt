-- All values of the rule exist on a lawful clean sheet, whatever the widths and heights.
use Rattle.std.proofs.Common.{◌≡◌, ℕ, refl, subst}
use Rattle.length.specs.Kind.{Kind, Laws}
use Rattle.placement.specs.Across.{Node, cell, In}
use Rattle.placement.specs.Rule.{middle, Given}
use Rattle.placement.specs.Theorems.{ValuesExist}
use Rattle.placement.proofs.Images.{facing, facing_is_image}
use Rattle.placement.proofs.Deciding.{rounds_up?}
use Rattle.placement.proofs.DownwardJoins.{bottom_exists, depth_exists}
use Rattle.placement.proofs.AcrossJoins.{in_exists, longest_exists}

-- half of v: the upper where P holds, else the lower
rounded : {V : Type 0} {P : Type 0} → Kind V → Dec P → V → V
rounded k (yes _) v = k.upper v
rounded k (no _) v = k.lower v

rounded_up : {V : Type 0} {P : Type 0} (k : Kind V) (d : Dec P) (v : V) → P → rounded k d v ≡ k.upper v
unfolding rounded
rounded_up k (yes _) v h = refl
rounded_up k (no not) v h = absurd (not h)

rounded_down : {V : Type 0} {P : Type 0} (k : Kind V) (d : Dec P) (v : V) → (P → ⊥) → rounded k d v ≡ k.lower v
unfolding rounded
rounded_down k (yes h) v not = absurd (not h)
rounded_down k (no _) v not = refl

pub values_exist_lem : {V : Type 0} {k : Kind V} → Laws k → ValuesExist k
values_exist_lem {V} {k} laws m lawful clean w h =
    let before : ℕ → V = λ a. (in_exists lawful laws clean w (cell a)).0 in
    let after : ℕ → V = λ a. (in_exists lawful laws clean w (facing a (m.mate a))).0 in
    let longest : V = (longest_exists lawful laws clean w).0 in
    let half : V = k.upper longest in
    let twice : ℕ → V = λ a. middle k (k.plus half half) (w a) (before a) (after a) in
    let x : ℕ → V = λ a. rounded k (rounds_up? lawful a) (twice a) in
    let y : ℕ → V = λ a. (bottom_exists lawful laws clean h a).0 in
    let depth : V = (depth_exists lawful laws clean h y).0 in
    let given : Given k m w h before after x y half depth =
    record {
      longest = longest;
      longest_is = (longest_exists lawful laws clean w).1;
      half_is = refl;
      before_is = λ a here. (in_exists lawful laws clean w (cell a)).1;
      after_is = λ a u is. subst (λ (v : Node). In k m w v (after a)) (facing_is_image is) (in_exists lawful laws clean w (facing a (m.mate a))).1;
      up = λ a here. rounded_up k (rounds_up? lawful a) (twice a);
      down = λ a here. rounded_down k (rounds_up? lawful a) (twice a);
      bottoms = λ a here. (bottom_exists lawful laws clean h a).1;
      depth_is = (depth_exists lawful laws clean h y).1;
    }
    in
    (before, after, x, y, half, depth, given)
