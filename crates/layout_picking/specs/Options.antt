-- Name options that go before others (CSL 1.0.2, inheritable name options).
use Rattle.std.specs.Option.{option_or}
use Rattle.value_styles.specs.Element.{NameOptions}

-- each option of the second where it has it, else that of the first
abbrev pub applied_options : NameOptions → NameOptions → NameOptions
applied_options outer inner = record {
  and = option_or inner.and outer.and;
  name_delimiter = option_or inner.name_delimiter outer.name_delimiter;
  names_delimiter = option_or inner.names_delimiter outer.names_delimiter;
  et_al_min = option_or inner.et_al_min outer.et_al_min;
  et_al_use_first = option_or inner.et_al_use_first outer.et_al_use_first;
  name_form = option_or inner.name_form outer.name_form;
  initialize_with = option_or inner.initialize_with outer.initialize_with;
}
