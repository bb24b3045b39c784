-- A child that is a name.
use Rattle.std.proofs.Common.{sym, ◌∙◌}
use Rattle.rounds_substitution.proofs.Gathering.{name_added}
use Rattle.rounds_substitution.proofs.names.+names.Goals as goal

pub add_names_of-returns-in_ok-push-in-Elem : goal.add_names_of-returns-in_ok-push-in-Elem
add_names_of-returns-in_ok-push-in-Elem t c =
    name_added c.args.names.now.items c.push.new.self.items _ c.args.child.now c.in_ok-push-in-Elem.ensures.items c.in-Elem.is (sym c.is_name.ensures ∙ c.if-is_name.true)
