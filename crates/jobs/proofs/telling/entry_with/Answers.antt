use Rattle.std.proofs.Common.{ℕ, Option, length, unwrap_or, ap, ◌∙◌, rules, tests}
use Rattle.std.proofs.lemmas.Iterator.{YieldsList-from_slice}
use Rattle.std.proofs.lemmas.Iterator.Search.{position_from_yields_List}
use Rattle.formats.specs.Rules.{names}
use Rattle.jobs.proofs.telling.entry_with.Goals as goal

pub returns : goal.returns
returns c =
    let es = c.args.entries.now in
    let place = position_from_yields_List (λ e. names e c.args.cell) _ _ c.position.result c.position.ensures.ran (YieldsList-from_slice es cc) (λ x b q k. search (rules, tests)) in
    c.unwrap_or.ensures ∙ ap (λ (o : Option ℕ). unwrap_or o (length es)) place
