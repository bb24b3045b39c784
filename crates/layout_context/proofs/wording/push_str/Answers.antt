-- With a mark that may be pulled in, and without.
use Rattle.std.proofs.Common.{sym, ◌∙◌}
use Rattle.driver_lookup.specs.SourceView.{lookup_view}
use Rattle.layout_context.specs.WritingState.{state}
use Rattle.layout_context.proofs.WordingSteps.{written_pushed, pulled_pushed}
use Rattle.layout_context.proofs.wording.push_str.Goals as goal

pub returns-then-may_pull-clause-done : goal.returns-then-may_pull-clause-done
returns-then-may_pull-clause-done c =
    pulled_pushed c.push_str.result (lookup_view c.args.style.now) _ c.args.s.now (state c.args.writing.now) _ c.closing_quotes.ensures c.push_str.ensures.done

pub returns-else-may_pull-clause-done : goal.returns-else-may_pull-clause-done
returns-else-may_pull-clause-done c =
    written_pushed c.write.result (lookup_view c.args.style.now) c.args.s.now (state c.args.writing.now) _ (sym c.may_pull.ensures.value ∙ c.if-may_pull.false) c.write.ensures.done
