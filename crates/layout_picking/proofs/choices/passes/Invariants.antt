use Rattle.std.proofs.Common.{◌≡◌, ◌||◌, ◌&&◌, drop}
use Rattle.std.specs.List.{list_any, list_all}
use Rattle.layout_picking.specs.InputView.{env_of}
use Rattle.layout_picking.specs.Conditions.{holds, tested}
use Rattle.layout_picking.proofs.choices.passes.Given as goal

abbrev pub invariant-loop-condition : goal.invariant-loop-condition
invariant-loop-condition g l =
    let env = env_of (g.T.EntryLike.answers l.input.entry.now) l.input.setting in
    let left = drop l.condition-index l.conditions in
    record {
      some : (l.some || list_any (holds env) left) ≡ list_any (holds env) l.conditions;
      all : (l.all && list_all (holds env) left) ≡ list_all (holds env) l.conditions;
      noted : tested left l.notes ≡ tested l.conditions l.initial.notes;
    }
