-- The plain data that is known of mentions and entries.
use Rattle.mentions_cites.specs.Cites.{ToldValue}
use Rattle.mentions_cites.specs.declared.cites.ToldEntries.{ToldEntries}

abbrev pub told_view : ToldEntries → ToldValue
told_view t = record {
  states = t.states.now;
  mentions = t.mentions.now;
  suffixes = t.suffixes.now;
  numbers = t.numbers.now;
}
