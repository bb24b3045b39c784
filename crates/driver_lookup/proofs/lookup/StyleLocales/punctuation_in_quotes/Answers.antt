use Rattle.std.proofs.Common.{◌∙◌, ap, false, unwrap_or, rules}
use Rattle.driver_lookup.proofs.FirstAnswers.{gives_plainly}
use Rattle.driver_lookup.proofs.lookup.StyleLocales.punctuation_in_quotes.Goals as goal

pub returns : goal.returns
returns c =
    let first = gives_plainly _ _ (λ l. l.punctuation_in_quote) (λ x r k. search rules) _ _ c.lookup_locale.ensures in
    c.unwrap_or.ensures ∙ ap (λ r. unwrap_or r false) first
