-- The plain data that the name options stand for that hold in the end.
use Rattle.layout_picking.specs.declared.name_rules.NameRules.{NameRules}
use Rattle.layout_picking.specs.NameRules.{Rules}

abbrev pub rules_view : NameRules → Rules
rules_view r = record {
  and = r.and;
  name_delimiter = r.name_delimiter.now;
  names_delimiter = r.names_delimiter.now;
  et_al_min = r.et_al_min;
  kept = r.kept;
  form = r.form;
  initial_end = r.initial_end.now;
}
