-- The join of a family exists where its places are listed and decided; and that of the totals of lists by their first
-- entries, where there is one for the lists that may follow each.
use Rattle.std.proofs.Common.{List, [], ◌∷◌, sym, refl, subst, inl, inr}
use Rattle.length.specs.Kind.{Kind, Laws}
use Rattle.length.specs.Join.{IsJoin}
use Rattle.length.proofs.Algebra.{plus_keeps_left}
use Rattle.length.proofs.Joins.{join_same, join_empty, join_with, join_shift}
use Rattle.placement.specs.Downward.{total}
use Rattle.placement.proofs.Entries.{Entry}

-- a list that is empty, or whose first entry is of P and whose others may follow it
abbrev pub Headed : {C : Type 0} → (C → Type 0) → (C → List C → Type 0) → List C → Type 0
Headed P Follow [] = Unit {0}
Headed P Follow (c ∷ cs) = P c × Follow c cs

module _ {V : Type 0} {k : Kind V} (laws : Laws k) {C : Type 0} where
  listed_join : (P : C → Type 0) → ((c : C) → Dec (P c)) → (g : C → V) (all : List C) → (t : V) × IsJoin k (λ (c : C). Entry c all × P c) g t
  listed_join P P? g [] = (k.zero, join_empty laws (λ c h. h.0))
  listed_join P P? g (c ∷ cs) = go (P? c) (listed_join P P? g cs)
    where
      go : Dec (P c) → (t : V) × IsJoin k (λ (x : C). Entry x cs × P x) g t → (t : V) × IsJoin k (λ (x : C). Entry x (c ∷ cs) × P x) g t
      go (yes here) (t, so) = (
        k.join t (g c),
        join_with laws g t c (inl refl, here) (λ x h. (inr h.0, h.1))
            (λ x h. elim h.0 [ inl e ↦ inl (sym e) | inr i ↦ inr (i, h.1) ])
            so,
      )
      go (no absent) (t, so) = (
        t,
        join_same (λ x h. (inr h.0, h.1))
            (λ x h. elim h.0 [ inl e ↦ absurd (absent (subst P (sym e) h.1)) | inr i ↦ (i, h.1) ])
            so,
      )

  pub finite_join : (P : C → Type 0) → ((c : C) → Dec (P c)) → (all : List C) → ((c : C) → P c → Entry c all) → (g : C → V) → (t : V) × IsJoin k P g t
  finite_join P P? all listed g =
      let r = listed_join P P? g all in
      (r.0, join_same (λ c h. h.1) (λ c h. (listed c h, h)) r.1)

  -- `rest c` is the join of what may follow c, among it nothing
  pub headed_join : (f : C → V) (P : C → Type 0) → ((c : C) → Dec (P c)) → (all : List C) → ((c : C) → P c → Entry c all) → (Follow : C → List C → Type 0) → ((c : C) → Follow c []) → (rest : C → V) → ((c : C) → IsJoin k (Follow c) (total k f) (rest c)) → (t : V) × IsJoin k (Headed P Follow) (total k f) t
  headed_join f P P? all listed Follow alone rest so = (best.0, record { above = above; least = least })
    where
      best : (t : V) × IsJoin k P (λ (c : C). k.plus (f c) (rest c)) t
      best = finite_join P P? all listed (λ (c : C). k.plus (f c) (rest c))

      above : (cs : List C) → Headed P Follow cs → k.at_most (total k f cs) best.0
      above [] h = laws.zero_least _
      above (c ∷ cs) h = laws.at_most_trans _ _ _ (plus_keeps_left laws _ _ (f c) ((so c).above cs h.1)) (best.1.above c h.0)

      least : (b : V) → ((cs : List C) → Headed P Follow cs → k.at_most (total k f cs) b) → k.at_most best.0 b
      least b every =
          best.1.least b
          (λ c h. subst (λ (x : V). k.at_most x b) (laws.plus_comm (rest c) (f c))
          ((join_shift laws (total k f) (rest c) (f c) [] (alone c) (so c)).least b
          (λ cs follows. subst (λ (x : V). k.at_most x b) (laws.plus_comm (f c) (total k f cs)) (every (c ∷ cs) (h, follows)))))
