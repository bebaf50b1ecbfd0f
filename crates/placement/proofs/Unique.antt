-- The rule gives one placement only: least upper bounds are unique, and which way a left edge is rounded is decided.
use Rattle.std.proofs.Common.{◌≡◌, ℕ, sym, ap, ◌∙◌}
use Rattle.length.specs.Kind.{Kind, Laws}
use Rattle.length.proofs.Joins.{join_only, join_like}
use Rattle.placement.specs.Meaning.{Meaning, Cell, Lawful}
use Rattle.placement.specs.Rule.{middle, Given}
use Rattle.placement.specs.Theorems.{ValuesUnique}
use Rattle.placement.proofs.Images.{has_image}
use Rattle.placement.proofs.Deciding.{rounds_up?}

module _ {V : Type 0} {k : Kind V} (laws : Laws k) {m : Meaning} (lawful : Lawful m) {w h before after x y before' after' x' y' : ℕ → V} {half depth half' depth' : V}
    (given : Given k m w h before after x y half depth) (given' : Given k m w h before' after' x' y' half' depth')
  where
    befores_same : (a : ℕ) → Cell m a → before a ≡ before' a
    befores_same a here = join_only laws _ _ (given.before_is a here) (given'.before_is a here)

    afters_same : (a : ℕ) → Cell m a → after a ≡ after' a
    afters_same a here =
        let its = has_image m a here in
        join_only laws _ _ (given.after_is a its.0 its.1) (given'.after_is a its.0 its.1)

    bottoms_same : (a : ℕ) → Cell m a → y a ≡ y' a
    bottoms_same a here = join_only laws _ _ (given.bottoms a here) (given'.bottoms a here)

    halves_same : half ≡ half'
    halves_same =
        let longest_same : given.longest ≡ given'.longest = join_only laws _ _ given.longest_is given'.longest_is in
        given.half_is ∙ ap k.upper longest_same ∙ sym given'.half_is

    middles_same : (a : ℕ) → Cell m a → middle k (k.plus half half) (w a) (before a) (after a) ≡ middle k (k.plus half' half') (w a) (before' a) (after' a)
    middles_same a here =
        let b = befores_same a here in
        let c = afters_same a here in
        let d = halves_same in
        cc

    lefts_same : (a : ℕ) → Cell m a → x a ≡ x' a
    lefts_same a here =
        elim (rounds_up? lawful a) [
          | yes up ↦ given.up a here up ∙ ap k.upper (middles_same a here) ∙ sym (given'.up a here up)
          | no down ↦ given.down a here down ∙ ap k.lower (middles_same a here) ∙ sym (given'.down a here down)
        ]

    depths_same : depth ≡ depth'
    depths_same =
        join_only laws _ _ given.depth_is
        (join_like _ _ (λ a here. ap (λ (t : V). k.plus t (h a)) (sym (bottoms_same a here))) given'.depth_is)

pub values_unique_lem : {V : Type 0} {k : Kind V} (laws : Laws k) → ValuesUnique k
values_unique_lem laws m lawful w h before after x y half depth before' after' x' y' half' depth' given given' = record {
  befores = befores_same laws lawful given given';
  afters = afters_same laws lawful given given';
  lefts = lefts_same laws lawful given given';
  bottoms = bottoms_same laws lawful given given';
  halves = halves_same laws lawful given given';
  depths = depths_same laws lawful given given';
}
