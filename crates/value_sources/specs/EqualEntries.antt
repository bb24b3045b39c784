-- The derived tests of equality on entries and what they hold decide equality.
use Rattle.std.specs.Prelude.{◌≡◌, true, refl}
use Rattle.std.proofs.Common.{ap}
use Rattle.std.specs.Cmp.{signed_Decides}
use denote.Enum.Bare.{same_true, true_same}
use Rattle.value_sources.specs.Finds.{Finds, both, and-true, texts_find, options_find, lists_find, pairs_find}
use Rattle.value_sources.specs.PlainEntry.{plain_answers, same_name_variable, same_date_variable, same_standard_variable, same_number_variable}
use Rattle.value_sources.specs.declared.entry.PlainEntry.{PlainEntry}
use Rattle.value_sources.specs.contracts.taxonomy.NameVariable as name_variable
use Rattle.value_sources.specs.contracts.taxonomy.DateVariable as date_variable
use Rattle.value_sources.specs.contracts.taxonomy.StandardVariable as standard_variable
use Rattle.value_sources.specs.contracts.taxonomy.NumberVariable as number_variable
use Rattle.value_sources.specs.contracts.entry.ChunkKind as chunk_kind
use Rattle.value_sources.specs.contracts.entry.PersonPartialEq.TheImpl as person_eq
use Rattle.value_sources.specs.contracts.entry.DatePartialEq.TheImpl as date_eq
use Rattle.value_sources.specs.contracts.entry.ChunkKindPartialEq.TheImpl as chunk_kind_eq
use Rattle.value_sources.specs.contracts.entry.ChunkPartialEq.TheImpl as chunk_eq
use Rattle.value_sources.specs.contracts.entry.ChunkedStringPartialEq.TheImpl as chunked_eq
use Rattle.value_sources.specs.contracts.entry.PlainEntryPartialEq.TheImpl as plain_entry_eq

pub name_variables_find : Finds same_name_variable
name_variables_find = record {
  equal = λ a b e. same_true name_variable.the_type tt a b e;
  self = λ a. true_same name_variable.the_type a a refl;
}

pub date_variables_find : Finds same_date_variable
date_variables_find = record {
  equal = λ a b e. same_true date_variable.the_type tt a b e;
  self = λ a. true_same date_variable.the_type a a refl;
}

pub standard_variables_find : Finds same_standard_variable
standard_variables_find = record {
  equal = λ a b e. same_true standard_variable.the_type tt a b e;
  self = λ a. true_same standard_variable.the_type a a refl;
}

pub number_variables_find : Finds same_number_variable
number_variables_find = record {
  equal = λ a b e. same_true number_variable.the_type tt a b e;
  self = λ a. true_same number_variable.the_type a a refl;
}

chunk_kinds_find : Finds (chunk_kind_eq.ghosts).eq
chunk_kinds_find = record {
  equal = λ a b e. same_true chunk_kind.the_type tt a b e;
  self = λ a. true_same chunk_kind.the_type a a refl;
}

pub persons_find : Finds (person_eq.ghosts).eq
persons_find = record {
  equal = λ a b e. let p = both _ _ e in
      λ i. record {
        name = texts_find.equal a.name b.name p.0 i;
        given_name = (options_find texts_find).equal a.given_name b.given_name p.1 i;
      };
  self = λ a. and-true _ _ (texts_find.self a.name) ((options_find texts_find).self a.given_name);
}

pub dates_find : Finds (date_eq.ghosts).eq
dates_find = record {
  equal = λ a b e. λ i. record { year = (signed_Decides a.year b.year).0 e i };
  self = λ a. (signed_Decides a.year a.year).1 refl;
}

pub chunks_find : Finds (chunk_eq.ghosts).eq
chunks_find = record {
  equal = λ a b e. let p = both _ _ e in
      λ i. record {
        value = texts_find.equal a.value b.value p.0 i;
        kind = chunk_kinds_find.equal a.kind b.kind p.1 i;
      };
  self = λ a. and-true _ _ (texts_find.self a.value) (chunk_kinds_find.self a.kind);
}

pub chunked_strings_find : Finds (chunked_eq.ghosts).eq
chunked_strings_find = record {
  equal = λ a b e. λ i. record { 0 = (lists_find chunks_find).equal a.0 b.0 e i };
  self = λ a. (lists_find chunks_find).self a.0;
}

pub plain_entries_find : Finds (plain_entry_eq.ghosts).eq
plain_entries_find = record {
  equal = λ a b e.
      let p = both _ _ e in let q = both _ _ p.1 in let r = both _ _ q.1 in let s = both _ _ r.1 in
      let t = both _ _ s.1 in
      λ i. record {
        key = texts_find.equal a.key b.key p.0 i;
        label = (options_find texts_find).equal a.label b.label q.0 i;
        names = (lists_find (pairs_find name_variables_find (lists_find persons_find))).equal
            a.names b.names
            r.0 i;
        dates = (lists_find (pairs_find date_variables_find dates_find)).equal a.dates
            b.dates s.0 i;
        texts = (lists_find (pairs_find standard_variables_find chunked_strings_find)).equal
            a.texts b.texts
            t.0 i;
        numbers = (lists_find (pairs_find number_variables_find texts_find)).equal a.numbers
            b.numbers t.1 i;
      };
  self = λ a.
      and-true _ _ (texts_find.self a.key)
      (and-true _ _ ((options_find texts_find).self a.label)
      (and-true _ _ ((lists_find
      (pairs_find name_variables_find (lists_find persons_find))).self a.names)
      (and-true _ _ ((lists_find (pairs_find date_variables_find dates_find)).self a.dates)
      (and-true _ _ ((lists_find
      (pairs_find standard_variables_find chunked_strings_find)).self a.texts)
      ((lists_find (pairs_find number_variables_find texts_find)).self a.numbers)))));
}

-- equal entries are one value, so they answer every call equally
pub equal_entries_answer_equally : (a b : PlainEntry) → (plain_entry_eq.ghosts).eq a b ≡ true
    → plain_answers a ≡ plain_answers b
equal_entries_answer_equally a b e = ap plain_answers (plain_entries_find.equal a b e)
