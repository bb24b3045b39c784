-- The tree of a cite once nothing of it changes any more.
use Rattle.std.specs.Prelude.{Bool, true, false, List, Option, Some, if◌then◌else◌}
use Rattle.value_trees.specs.Child.{Child}
use Rattle.driver_lookup.specs.Lookup.{Source}
use Rattle.driver_lookup.specs.Properties.{Properties}
use Rattle.driver_lookup.specs.declared.purpose.CitePurpose.{CitePurpose}
use Rattle.driver_passes.specs.Renders.{ItemRender}
use Rattle.driver_writers.specs.Tasks.{CiteTaskValue, DateTaskValue, LastPlace, TaskValue, cite_task, date_task}
use Rattle.driver_writers.specs.Writing.{Writing}

abbrev pub is_for_year : Option CitePurpose → Bool
is_for_year (Some CitePurpose.Year) = true
is_for_year _ = false

module _ {E P : Type 0} where
  -- the date, in place of a cite, with the suffix that its means have
  abbrev pub date_of : CiteTaskValue E P → DateTaskValue E
  date_of t = record {
    source = t.source;
    entry = t.entry;
    suffix = t.properties.speculative.means.suffix;
    place = t.place;
  }

  -- what is asked for where a cite is written: the date where it is for the year alone
  abbrev pub task_by_purpose : CiteTaskValue E P → TaskValue E P
  task_by_purpose t = if is_for_year t.purpose then date_task (date_of t) else cite_task t

  abbrev pub tree_by_purpose : Writing E P → CiteTaskValue E P → List Child
  tree_by_purpose writing t =
      if is_for_year t.purpose then writing.date (date_of t) else (writing.cite t).children

  -- a cite is written at last by its properties, with its own locator
  abbrev pub last_properties : ItemRender E P → Properties P
  last_properties i =
      record i.properties { speculative = record i.properties.speculative { locator = i.locator } }

  -- a cite that is written at last, at its place, for its purpose and as its verdict cuts it
  abbrev pub last_task : Source → LastPlace → ItemRender E P → CiteTaskValue E P
  last_task source place i = record {
    source = source;
    entry = i.entry;
    properties = last_properties i;
    purpose = i.purpose;
    verdict = i.verdict;
    place = place;
  }
