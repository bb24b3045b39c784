-- Where no tables are prepared.
use Rattle.std.proofs.Common.{rules}
use Rattle.value_styles.specs.StyleView.{term_view}
use Rattle.driver_styles.specs.Terms.{term_in}
use Rattle.driver_lookup.proofs.FirstAnswers.{gives_known}
use Rattle.driver_lookup.proofs.lookup.StyleLocales.term_of_form.Goals as goal

pub returns-in-None : goal.returns-in-None
returns-in-None c =
    gives_known _ _ (λ t. term_view t.now) (term_in c.args.name c.args.form) (λ x r k. search rules) _ _ c.lookup_locale.ensures
