use Rattle.write_html.proofs.Pushed.{Leads-opened}
use Rattle.write_html.proofs.Texts.{text_same}
use Rattle.write_html.proofs.markup.Markup.open_as.Goals as goal

pub invariant_of-self-in-Ok : goal.invariant_of-self-in-Ok
invariant_of-self-in-Ok c = record { nested = Leads-opened _ _ _ _ _ _ _ c.in-Ok.ensures.bytes c.in_ok-push.ensures.items c.args.self.now.nested c.requires.opens }

pub returns-in-Ok-clause-text : goal.returns-in-Ok-clause-text
returns-in-Ok-clause-text c = text_same _ _ _ _ _ c.in-Ok.ensures.bytes c.args.self.now.nested c.requires.no_text
