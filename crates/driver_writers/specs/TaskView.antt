-- The plain data that tasks stand for.
use Rattle.driver_lookup.specs.PropertiesView.{properties_view}
use Rattle.driver_lookup.specs.SourceView.{source_view}
use Rattle.driver_writers.specs.Tasks.{CiteTaskValue, DateTaskValue, ItemTaskValue}
use Rattle.driver_writers.specs.declared.task.CiteTask.{CiteTask}
use Rattle.driver_writers.specs.declared.task.DateTask.{DateTask}
use Rattle.driver_writers.specs.declared.task.ItemTask.{ItemTask}

module _ {T P : Type 0} where
  abbrev pub cite_task_view : CiteTask T P → CiteTaskValue T P
  cite_task_view t = record {
    source = source_view t.source;
    entry = t.entry.now;
    properties = properties_view t.properties.now;
    purpose = t.purpose;
    verdict = t.verdict;
    place = t.place;
  }

  abbrev pub item_task_view : ItemTask T P → ItemTaskValue T P
  item_task_view t = record {
    source = source_view t.source;
    entry = t.entry.now;
    properties = properties_view t.properties.now;
  }

abbrev pub date_task_view : {T : Type 0} → DateTask T → DateTaskValue T
date_task_view t = record {
  source = source_view t.source;
  entry = t.entry.now;
  suffix = t.suffix;
  place = t.place;
}
