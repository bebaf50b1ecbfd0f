-- What stands before each node, checked node by node: each ends before those that it precedes, and stands at zero or
-- where one that precedes it ends.
use Rattle.std.proofs.Common.{◌≡◌, ℕ, zero, suc, ◌+◌, ◌<◌, ◌≤◌, max, ◌⊎◌, List, [], ◌∷◌, ◌++◌, sym, ap, subst, subst₂, inl, inr, arith}
use Rattle.book.specs.Order.{LeftOf}
use Rattle.length.specs.Kind.{Laws}
use Rattle.length.specs.Kinds.{plain, plain_kind}
use Rattle.length.specs.declared.Plain.{Plain}
use Rattle.length.proofs.Joins.{join_shift}
use Rattle.placement.specs.Meaning.{Meaning, Cell, Lawful}
use Rattle.placement.specs.Downward.{total}
use Rattle.placement.specs.Across.{Node, cell, image, IsNode, Image, of_mate, of_free, node_width, Precedes, straight, mirrored, Chain, Into, In, Longest}
use Rattle.placement.proofs.Walking.{walk_join}
use Rattle.placement.proofs.Paths.{walk_then_path}
use Rattle.placement.proofs.Chains.{walk_from_node}
use Rattle.placement.proofs.Images.{facing, facing_is_image, has_image, image_is_node, first_is_node}
use Rattle.placement.proofs.StandingApart.{into_fits, chain_fits}
use Rattle.placement.proofs.Totals.{total_more}
use Rattle.worked.proofs.Tests.{Test, both, either, gives, at_most, equal, every, some}
use Rattle.worked.proofs.Orders.{left?}
use Rattle.worked.proofs.Deciding.{same_node?}

abbrev pub mirror : Meaning → ℕ → Node
mirror m a = facing a (m.mate a)

its_image : (m : Meaning) (a : ℕ) → Cell m a → Image m a (mirror m a)
its_image m a here = let (u, is) = has_image m a here in subst (Image m a) (sym (facing_is_image is)) is

pub imaged : {m : Meaning} {a : ℕ} {u : Node} → Image m a u → Cell m a
imaged (of_mate mate) = mate.cell
imaged (of_free free) = free.cell

module _ (m : Meaning) (w : ℕ → Plain) (at : Node → Plain) where
  abbrev pub n : ℕ
  n = m.order.count

  -- where a node ends
  abbrev pub end : Node → ℕ
  end u = (at u).0 + (node_width w u).0

  abbrev pub Clear : Type 0
  Clear = (a : ℕ) → a < n → (b : ℕ) → b < n → LeftOf m.order a b → (end (cell a) ≤ (at (cell b)).0) × (end (mirror m b) ≤ (at (mirror m a)).0)

  abbrev pub clear? : Test Clear
  clear? =
      every n (λ a. every n (λ b.
      gives (left? m.order a b) (both (at_most (end (cell a)) (at (cell b)).0) (at_most (end (mirror m b)) (at (mirror m a)).0))))

  -- v stands at zero, or where a node ends that precedes it
  abbrev pub Touches : Node → Type 0
  Touches v =
      ((at v).0 ≡ 0)
      ⊎ ((a : ℕ) × (a < n) × ((b : ℕ) × (b < n) × (LeftOf m.order a b × (((cell b ≡ v) × (end (cell a) ≡ (at v).0)) ⊎ ((mirror m a ≡ v) × (end (mirror m b) ≡ (at v).0))))))

  abbrev pub touches? : (v : Node) → Test (Touches v)
  touches? v =
      either (equal (at v).0 0)
      (some n (λ a. some n (λ b.
      both (left? m.order a b)
      (either (both (same_node? (cell b) v) (equal (end (cell a)) (at v).0)) (both (same_node? (mirror m a) v) (equal (end (mirror m b)) (at v).0))))))

  abbrev pub AllTouch : Type 0
  AllTouch = (a : ℕ) → a < n → Touches (cell a) × Touches (mirror m a)

  -- every node ends by d, and some node there
  abbrev pub Ends : ℕ → Type 0
  Ends d = ((a : ℕ) → a < n → (end (cell a) ≤ d) × (end (mirror m a) ≤ d)) × ((a : ℕ) × (a < n) × ((end (cell a) ≡ d) ⊎ (end (mirror m a) ≡ d)))

  abbrev pub ends? : (d : ℕ) → Test (Ends d)
  ends? d =
      both (every n (λ a. both (at_most (end (cell a)) d) (at_most (end (mirror m a)) d)))
      (some n (λ a. either (equal (end (cell a)) d) (equal (end (mirror m a)) d)))

  -- where the last of k cells and their images ends
  abbrev pub last : ℕ → ℕ
  last zero = 0
  last (suc k) = max (max (end (cell k)) (end (mirror m k))) (last k)

  abbrev pub Stands : Type 0
  Stands = Clear × (AllTouch × Ends (last n))

  abbrev pub stands? : Test Stands
  stands? = both clear? (both (every n (λ a. both (touches? (cell a)) (touches? (mirror m a)))) (ends? (last n)))

  module _ (laws : Laws plain_kind) (lawful : Lawful m) (wide : (a : ℕ) → a < n → 0 < (w a).0) (stands : Stands) where
    apart : (u v : Node) → Precedes m u v → end u ≤ (at v).0
    apart u v (straight {a} {b} l) = (stands.0 a l.apart.a_in b l.apart.b_in l).0
    apart u v (mirrored {a} {b} l of_b of_a) =
        subst₂ (λ (s t : Node). end s ≤ (at t).0) (facing_is_image of_b) (facing_is_image of_a) (stands.0 a l.apart.a_in b l.apart.b_in l).1

    -- what holds of each cell and its image holds of each node
    each_node : (P : Node → Type 0) → ((a : ℕ) → a < n → P (cell a) × P (mirror m a)) → (u : Node) → IsNode m u → P u
    each_node P all (cell a) here = (all a here).0
    each_node P all (image a) free = subst P (ap (facing a) free.told) (all a free.cell).1

    comes_after : (v : Node) → Touches v → ((at v).0 ≡ 0) ⊎ ((u : Node) × Precedes m u v × (end u ≡ (at v).0))
    comes_after v (inl none) = inl none
    comes_after v (inr (a, a_in, (b, b_in, (l, inl (is, meets))))) = inr (cell a, subst (Precedes m (cell a)) is (straight l), meets)
    comes_after v (inr (a, a_in, (b, b_in, (l, inr (is, meets))))) =
        inr (mirror m b, subst (Precedes m (mirror m b)) is (mirrored l (its_image m b b_in) (its_image m a a_in)), meets)

    node_wide : (u : Node) → IsNode m u → 0 < (node_width w u).0
    node_wide (cell a) here = wide a here
    node_wide (image a) free = wide a free.cell

    abbrev widths : List Node → Plain
    widths = total plain_kind (node_width w)

    into_more : (us : List Node) (u v : Node) → Into m u us → Precedes m u v → Into m v (us ++ u ∷ [])
    into_more [] u v into step = step
    into_more (x ∷ us) u v into step = walk_join (Precedes m) x us u [] v into step

    chain_more : (us : List Node) (u : Node) → IsNode m u → Into m u us → Chain m (us ++ u ∷ [])
    chain_more [] u here into = (here, tt)
    chain_more (x ∷ us) u here into = (walk_from_node lawful x us u into, walk_then_path (Precedes m) x us u [] into tt)

    -- where chains into u, each with u behind it, all fit, u ends in time
    end_fits : (u : Node) (b : Plain) → In plain_kind m w u (at u) → ((us : List Node) → Into m u us → (widths (us ++ u ∷ [])).0 ≤ b.0) → end u ≤ b.0
    end_fits u b before all =
        (join_shift laws widths (at u) (node_width w u) [] tt before).least b
        (λ us into. subst (λ (t : Plain). t.0 ≤ b.0) (total_more laws (node_width w) us u) (all us into))

    reached : (v : Node) → ((u : Node) → IsNode m u → (at u).0 < (at v).0 → In plain_kind m w u (at u)) → (b : Plain) → ((us : List Node) → Into m v us → (widths us).0 ≤ b.0)
        → ((at v).0 ≡ 0) ⊎ ((u : Node) × Precedes m u v × (end u ≡ (at v).0)) → (at v).0 ≤ b.0
    reached v earlier b all (inl none) = omega arith
    reached v earlier b all (inr (u, step, meets)) =
        let there = first_is_node lawful step in
        let some_width = node_wide u there in
        let fits = end_fits u b (earlier u there (omega arith)) (λ us into. all (us ++ u ∷ []) (into_more us u v into step)) in
        omega arith

    in_below : (bound : ℕ) (v : Node) → IsNode m v → (at v).0 < bound → In plain_kind m w v (at v)
    in_below zero v here low = absurd (omega arith)
    in_below (suc bound) v here low = record {
      above = into_fits laws at apart v;
      least = λ b all. reached v (λ u there less. in_below bound u there (omega arith)) b all (comes_after v (each_node Touches stands.1.0 v here));
    }

    pub in_is : (v : Node) → IsNode m v → In plain_kind m w v (at v)
    in_is v here = in_below (suc (at v).0) v here (omega arith)

    pub in_mirror : (a : ℕ) (u : Node) → Image m a u → In plain_kind m w u (at (mirror m a))
    in_mirror a u is = subst (λ (v : Node). In plain_kind m w u (at v)) (sym (facing_is_image is)) (in_is u (image_is_node lawful is))

    last_fits : (a : ℕ) → a < n → (b : Plain) → ((us : List Node) → Chain m us → (widths us).0 ≤ b.0) → (end (cell a) ≡ last n) ⊎ (end (mirror m a) ≡ last n) → last n ≤ b.0
    last_fits a here b all (inl is) =
        let fits = end_fits (cell a) b (in_is (cell a) here) (λ us into. all (us ++ cell a ∷ []) (chain_more us (cell a) here into)) in omega arith
    last_fits a here b all (inr is) =
        let u = mirror m a in
        let there = image_is_node lawful (its_image m a here) in
        let fits = end_fits u b (in_is u there) (λ us into. all (us ++ u ∷ []) (chain_more us u there into)) in
        omega arith

    pub longest_is : Longest plain_kind m w (plain (last n))
    longest_is = record {
      above = chain_fits laws at apart lawful (plain (last n)) (each_node (λ u. end u ≤ last n) stands.1.1.0);
      least = λ b all. let (a, here, is) = stands.1.1.1 in last_fits a here b all is;
    }
