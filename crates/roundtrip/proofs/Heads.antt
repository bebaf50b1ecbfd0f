-- What a job says up to its sizes is read exactly.
use Rattle.std.proofs.Common.{◌≡◌, ℕ, true, List, [], ◌∷◌, ◌++◌, sym, refl, ap}
use Rattle.refusal.specs.declared.fault.FieldFault.TheVariants as fault
use Rattle.formats.specs.Choices.{book_number, turn_number}
use Rattle.formats.specs.Rules.{is_cell_count, is_processes}
use Rattle.formats.specs.Files.{book_kind_of, order_numbers}
use Rattle.formats.specs.Reading.{Head, head}
use Rattle.roundtrip.proofs.Exact.{Exact, Of, exact_good, exact_part, exact_ok}
use Rattle.roundtrip.proofs.Fields.{exact_field}
use Rattle.roundtrip.proofs.Choices.{exact_book, exact_turn, exact_allowed}
use Rattle.roundtrip.proofs.Orders.{Ordered, exact_order}
use Rattle.formats.proofs.Small.{count_small, processes_small}

pub record GoodHead (h : Head) : Type 0 where
  pub count : is_cell_count h.count ≡ true
  pub order : Ordered h.count h.order
  pub processes : is_processes h.processes ≡ true

abbrev pub head_numbers : Head → List ℕ
head_numbers h = book_number (book_kind_of h.order) ∷ h.count ∷ (order_numbers h.order ++ (turn_number h.turn ∷ h.processes ∷ []))

pub exact_head : (file : List ℕ) → Exact file (head file) (Of GoodHead head_numbers)
exact_head file =
    exact_good
    (λ h w. record { count = w.1.0.0; order = w.1.1.0.1; processes = w.1.1.1.1.0.0 })
    (λ h g. (tt, ((g.count, count_small h.count g.count), ((refl, g.order), (tt, ((g.processes, processes_small h.processes g.processes), refl))))))
    (exact_part (λ h. book_kind_of h.order) (exact_book file)
    (λ _ kind. exact_part (λ h. h.count) (exact_field file is_cell_count fault.CellCount)
    (λ _ n. exact_part (λ h. h.order) (exact_order file n kind)
    (λ _ o. exact_part (λ h. h.turn) (exact_turn file)
    (λ _ t. exact_part (λ h. h.processes) (exact_allowed is_processes file)
    (λ _ k. exact_ok (record { count = n; order = o; turn = t; processes = k }))
    (λ k h _ e. sym (ap (λ x. x.processes) e)))
    (λ t h _ e. sym (ap (λ x. x.turn) e.1)))
    (λ o h _ e. sym (ap (λ x. x.order) e.1.1)))
    (λ n h _ e. sym (ap (λ x. x.count) e.1.1.1)))
    (λ kind h _ e. sym e.1.0.0))
