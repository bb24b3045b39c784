-- The forms are raised one after another.
use Rattle.std.proofs.Common.{◌≡◌, ◌++◌, drop, map}
use Rattle.std.specs.Prelude.{slice_get}
use Rattle.std.specs.List.{enumerate_from}
use Rattle.driver_lookup.specs.Means.{at_least, raised_forms}
use Rattle.driver_lookup.proofs.means.raised_forms.Given as goal

abbrev pub invariant-loop-i : goal.invariant-loop-i
invariant-loop-i l =
    l.raised.items ++ map (λ p. at_least (slice_get l.least p.0) p.1) (enumerate_from l.i (drop l.i l.forms))
    ≡ raised_forms l.least l.forms
