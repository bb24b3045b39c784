use Rattle.std.proofs.Common.{◌≡◌, drop}
use Rattle.std.specs.Prelude.{◌==◌}
use Rattle.std.specs.Map.{lookup}
use Rattle.write_html.proofs.superscripts.base_in.Given as goal

-- what is left has what all have
abbrev pub invariant-loop-superscript : goal.invariant-loop-superscript
invariant-loop-superscript l =
    lookup (λ superscript. superscript == l.c) (drop l.superscript-index l.superscripts) ≡ lookup (λ superscript. superscript == l.c) l.superscripts
