use Rattle.std.proofs.Common.{◌≡◌, ◌++◌}
use Rattle.driver_assembly.specs.Assembly.{joined_cites}
use Rattle.driver_assembly.specs.ShownView.{shown_views}
use Rattle.driver_assembly.proofs.Joined.{is_none_yet}
use Rattle.driver_assembly.proofs.assemble.push_cites.Given as goal

abbrev pub invariant-loop-cite : goal.invariant-loop-cite
invariant-loop-cite l = record {
  first : l.is_first ≡ is_none_yet (shown_views l.yielded);
  made : l.tree ≡ l.fn.tree ++ joined_cites l.formatting (shown_views l.yielded);
}
