-- Mentions as plain data: each as the cite that it is where nothing tells it apart.
use Rattle.mentions_cited.specs.Cited.{first_task}
use Rattle.mentions_cited.specs.declared.mention.CiteMention.{CiteMention}
use Rattle.mentions_tables.specs.Tables.{with_mention}
use Rattle.mentions_tables.specs.declared.subject.Subject.{Subject}
use Rattle.driver_writers.specs.Tasks.{CiteTaskValue}

abbrev pub plain : {E P : Type 0} → Subject (CiteMention E P) → Subject (CiteTaskValue E P)
plain = with_mention first_task
