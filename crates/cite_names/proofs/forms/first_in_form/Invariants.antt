use Rattle.std.proofs.Common.{◌≡◌, ◌++◌, ◌-◌, ◌≤◌, max, replicate}
use Rattle.value_sources.specs.declared.names.DisambiguatedNameForm.TheVariants.{Count}
use Rattle.cite_names.proofs.forms.first_in_form.Given as goal

abbrev pub invariant-loop : goal.invariant-loop
invariant-loop l = l.forms.items ≡ replicate l.counter l.fn.form

abbrev pub invariant-loop-2 : goal.invariant-loop-2
invariant-loop-2 l = record {
  in_range : l.counter ≤ max l.first l.count;
  pushed : l.forms.items ≡ replicate l.first l.fn.form ++ replicate (l.counter - l.first) Count;
}
