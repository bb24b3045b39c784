use Rattle.std.proofs.Common.{arith}
use Rattle.std.proofs.lemmas.List.Sums.{suffix_len_is}
use Rattle.cite_names.specs.NameForms.{only_counts}
use Rattle.value_sources.specs.declared.names.DisambiguatedNameForm.TheVariants.{Count}
use Rattle.cite_names.proofs.forms.written_names.Goals as goal

pub returns : goal.returns
returns c =
    let kept = c.loop-place.invariant in
    omega (arith, suffix_len_is only_counts c.args.forms.now c.loop-place.written Count (omega arith) (λ k from inside. kept.counted k from (omega arith)) kept.last)
