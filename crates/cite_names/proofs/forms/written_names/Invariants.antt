use Rattle.std.proofs.Common.{◌≡◌, ℕ, ◌-◌, ◌<◌, ◌≤◌, get_or, true, false}
use Rattle.cite_names.specs.NameForms.{only_counts}
use Rattle.value_sources.specs.declared.names.DisambiguatedNameForm.TheVariants.{Count}
use Rattle.cite_names.proofs.forms.written_names.Given as goal

abbrev pub invariant-loop-place : goal.invariant-loop-place
invariant-loop-place l = record {
  in_range : l.written ≤ l.place;
  counted : (k : ℕ) → l.written ≤ k → k < l.place → only_counts (get_or l.forms k Count) ≡ true;
  last : 0 < l.written → only_counts (get_or l.forms (l.written - 1) Count) ≡ false;
}
