-- What was written into the empty text.
use Rattle.std.proofs.Common.{◌++◌, ◌∙◌, ap}
use Rattle.std.proofs.lemmas.Fmt.{contents_after_writes}
use Rattle.std.specs.Fmt.{decimal}
use Rattle.csl_writing.proofs.parts.decimal_text.Goals as goal

pub returns-in-Ok : goal.returns-in-Ok
returns-in-Ok c =
    contents_after_writes _ (λ text. text) (λ w bs v h. h) _ _ _ c.in-Ok.ensures.writes ∙ ap (λ bs. bs ++ decimal c.args.number) c.in_ok-text.ensures
