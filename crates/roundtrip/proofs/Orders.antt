-- The order of a job, two rows or an expression, is read exactly.
use Rattle.std.proofs.Common.{◌≡◌, ℕ, ◌-◌, ◌*◌, List, [], ◌++◌, length, Ok, sym, refl, ◌∙◌, subst, ap₂, arith}
use Rattle.std.proofs.lemmas.List.{append-nil}
use Rattle.formats.specs.declared.fields.BookKind.{BookKind}
use Rattle.formats.specs.declared.fields.BookKind.TheVariants.{SequencePair, Slicing}
use Rattle.formats.specs.Rules.{fits}
use Rattle.formats.specs.Files.{OrderFields, rows, expression, book_kind_of, order_numbers}
use Rattle.formats.specs.Reading.{misordered, order_list_at, order}
use Rattle.formats.specs.Writing.{list_check}
use Rattle.numbers.specs.Number.{EachStorable}
use Rattle.roundtrip.proofs.Exact.{Exact, Of, Then, exact_like, exact_then, exact_ok}
use Rattle.roundtrip.proofs.Lists.{exact_list}

-- list l of an order of n cells has k numbers that fit
abbrev pub Fitting : BookKind → ℕ → ℕ → ℕ → List ℕ → Type 0
Fitting kind n l k us = (length us ≡ k) × (list_check (fits kind n) (λ i. misordered l i 0) [] us ≡ Ok tt) × EachStorable us

abbrev pub Ordered : ℕ → OrderFields → Type 0
Ordered n (rows first second) = Fitting SequencePair n 1 n first × Fitting SequencePair n 2 n second
Ordered n (expression e) = Fitting Slicing n 1 (2 * n - 1) e

module _ (file : List ℕ) (n : ℕ) where
  abbrev Spelled : BookKind → OrderFields → List ℕ → Type 0
  Spelled kind = Of (λ o. (book_kind_of o ≡ kind) × Ordered n o) order_numbers

  exact_row : (kind : BookKind) (l k : ℕ) → Exact file (order_list_at kind n l k file) (Of (Fitting kind n l k) (λ us. us))
  exact_row kind l k = exact_list (fits kind n) (misordered l) (λ i. misordered l i 0) file k

  abbrev Two : OrderFields → List ℕ → Type 0
  Two = Then (Of (Fitting SequencePair n 1 n) (λ us. us)) (λ first. Then (Of (Fitting SequencePair n 2 n) (λ us. us)) (λ second. Of (λ o. o ≡ rows first second) (λ _. [])))

  two_there : (o : OrderFields) (ns : List ℕ) → Two o ns → Spelled SequencePair o ns
  two_there o ns w =
      let x = w.next in
      subst (λ z. Spelled SequencePair z ns) (sym x.next.0)
      ((refl, (w.first.0, x.first.0)), w.joined ∙ ap₂ ◌++◌ w.first.1 (x.joined ∙ ap₂ ◌++◌ x.first.1 x.next.1 ∙ append-nil x.value))

  two_here : (o : OrderFields) (ns : List ℕ) → Spelled SequencePair o ns → Two o ns
  two_here (rows a b) ns w = record {
    value = a;
    front = a;
    rest = b;
    first = (w.0.1.0, refl);
    next = record { value = b; front = b; rest = []; first = (w.0.1.1, refl); next = (refl, refl); joined = sym (append-nil b) };
    joined = w.1;
  }
  two_here (expression e) ns w = absurd (let k = w.0.0 in cc)

  abbrev One : OrderFields → List ℕ → Type 0
  One = Then (Of (Fitting Slicing n 1 (2 * n - 1)) (λ us. us)) (λ e. Of (λ o. o ≡ expression e) (λ _. []))

  one_there : (o : OrderFields) (ns : List ℕ) → One o ns → Spelled Slicing o ns
  one_there o ns w =
      subst (λ z. Spelled Slicing z ns) (sym w.next.0) ((refl, w.first.0), w.joined ∙ ap₂ ◌++◌ w.first.1 w.next.1 ∙ append-nil w.value)

  one_here : (o : OrderFields) (ns : List ℕ) → Spelled Slicing o ns → One o ns
  one_here (rows a b) ns w = absurd (let k = w.0.0 in cc)
  one_here (expression e) ns w = record { value = e; front = e; rest = []; first = (w.0.1, refl); next = (refl, refl); joined = w.1 ∙ sym (append-nil e) }

  pub exact_order : (kind : BookKind) → Exact file (order kind n file) (Spelled kind)
  exact_order SequencePair =
      exact_like two_there two_here
      (exact_then (exact_row SequencePair 1 n) (λ p first. exact_then (exact_row SequencePair 2 n) (λ q second. exact_ok (rows first second))))
  exact_order Slicing = exact_like one_there one_here (exact_then (exact_row Slicing 1 (2 * n - 1)) (λ p e. exact_ok (expression e)))
