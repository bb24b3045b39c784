-- The data of a task reads as the task.
use Rattle.std.proofs.Common.{◌≡◌, ℕ, List, [], ◌∷◌, ◌++◌, map, Bool, true, false, cond, Option, Some, None, option_map, option_and_then, codes, refl, ap, sym, subst, ◌∙◌}
use Rattle.std.specs.List.{list_all}
use Rattle.std.specs.Prelude.{is_some}
use Rattle.document_requests.proofs.FirstKeyed.{first_of_none}
use Rattle.serde_json.specs.Data.{Data, string, no_members}
use Rattle.serde_json.specs.Find.{get, as_array, as_bool, as_str}
use Rattle.serde_json.specs.View.{items_of}
use Rattle.value_sources.specs.declared.names.DisambiguatedNameForm.{DisambiguatedNameForm}
use Rattle.value_sources.specs.declared.taxonomy.Locator.{Locator}
use Rattle.value_sources.specs.declared.names.NameDisambiguationProperties.{NameDisambiguationProperties}
use Rattle.driver_lookup.specs.declared.purpose.CitePurpose.{CitePurpose}
use Rattle.driver_lookup.specs.declared.state.CollapseVerdict.{CollapseVerdict}
use Rattle.driver_lookup.specs.declared.state.DisambiguateState.{DisambiguateState}
use Rattle.driver_lookup.specs.declared.state.IbidState.{IbidState}
use Rattle.driver_lookup.specs.declared.state.IdentifierUsage.{IdentifierUsage}
use Rattle.host_memo.specs.declared.key.Standing.{Standing}
use Rattle.host_memo.specs.declared.key.TaskKey.{TaskKey}
use Rattle.host_memo.specs.declared.key.TaskPart.{TaskPart}
use Rattle.driver_writers.specs.Tasks.{LastPlace}
use Rattle.document_values.specs.Words.{first_of, is_one_of, object_with, required, optional, or_default, present, where_present, flag, all_items, whole}
use Rattle.document_values.specs.Names.{one_of}
use Rattle.document_values.specs.Tables.{locators, purposes}
use Rattle.document_tasks.specs.ReadBack.{HasFittingPlace, TasksReadBack}
use Rattle.document_tasks.specs.TaskNames.{form_name, locator_name, written_name_forms, purpose_name, ibid_states, repeats_name, usage_name, usages, verdict_name, verdicts, kinds}
use Rattle.document_tasks.specs.TaskData.{count_data, true_if, place_data, locator_data, names_data, state_data, key_fields, task_data}
use Rattle.document_tasks.specs.TaskForm.{cite_task_form, date_task_form, item_task_form, key_form, kind_task_form, counted_locator_form, least_names, names_form, names_state, part_form, place_form, standing_form, standing_keys, state_form, suffix_state, task_keys}
use Rattle.document_tasks.specs.declared.task_names.TaskKind.{TaskKind}
use Rattle.document_tasks.proofs.Fields.{allows, field_at, found_field, fields_each}

-- ---- what stands under the keys

form_back : (form : DisambiguatedNameForm) → one_of written_name_forms (string (form_name form)) ≡ Some form
form_back DisambiguatedNameForm.Count = refl
form_back DisambiguatedNameForm.Short = refl
form_back DisambiguatedNameForm.LongInitialized = refl
form_back DisambiguatedNameForm.LongFull = refl

purpose_back : (purpose : CitePurpose) → one_of purposes (string (purpose_name purpose)) ≡ Some purpose
purpose_back CitePurpose.Author = refl
purpose_back CitePurpose.Year = refl
purpose_back CitePurpose.Full = refl
purpose_back CitePurpose.Prose = refl

verdict_back : (verdict : CollapseVerdict) → one_of verdicts (string (verdict_name verdict)) ≡ Some verdict
verdict_back CollapseVerdict.First = refl
verdict_back CollapseVerdict.YearSuffix = refl

kind_back : (kind : Locator) → one_of locators (string (locator_name kind)) ≡ Some kind
kind_back Locator.Book = refl
kind_back Locator.Chapter = refl
kind_back Locator.Custom = refl
kind_back Locator.Figure = refl
kind_back Locator.Line = refl
kind_back Locator.Note = refl
kind_back Locator.Page = refl
kind_back Locator.Paragraph = refl
kind_back Locator.Part = refl
kind_back Locator.Section = refl
kind_back Locator.Supplement = refl
kind_back Locator.Verse = refl
kind_back Locator.Volume = refl

place_back : (p : ℕ × ℕ) → place_form (place_data p) ≡ Some p
place_back p = refl

locator_back : (l : Locator × List ℕ) → counted_locator_form (locator_data l) ≡ Some l
locator_back l = ap (option_and_then (λ kind. Some (kind, l.1))) (kind_back l.0)

forms_back : (forms : List DisambiguatedNameForm) → all_items (one_of written_name_forms) (items_of (map (λ form. string (form_name form)) forms)) ≡ Some forms
forms_back [] = refl
forms_back (form ∷ forms) =
    let rest = all_items (one_of written_name_forms) (items_of (map (λ form. string (form_name form)) forms)) in
    ap (option_and_then (λ x. option_and_then (λ xs. Some (x ∷ xs)) rest)) (form_back form)
    ∙ ap (option_and_then (λ xs. Some (form ∷ xs))) (forms_back forms)

state_back : (s : DisambiguateState) → or_default DisambiguateState.None state_form (state_data s) ≡ Some s
unfolding state_form names_state suffix_state
state_back DisambiguateState.None = refl
state_back (DisambiguateState.NameDisambiguation names) =
    ap (option_and_then (λ forms. Some (DisambiguateState.NameDisambiguation (record { forms = forms })))) (forms_back names.forms)
state_back DisambiguateState.Choose = refl
state_back (DisambiguateState.YearSuffix n) = refl

ibid_back : (s : IbidState) → or_default IbidState.Different (one_of ibid_states) (option_map string (repeats_name s)) ≡ Some s
ibid_back IbidState.Different = refl
ibid_back IbidState.IbidWithLocator = refl
ibid_back IbidState.Ibid = refl

usage_back : (u : IdentifierUsage) → or_default IdentifierUsage.None (one_of usages) (option_map string (usage_name u)) ≡ Some u
usage_back IdentifierUsage.None = refl
usage_back IdentifierUsage.OnlyCitationLabel = refl
usage_back IdentifierUsage.OnlyCitationNumber = refl
usage_back IdentifierUsage.Mixed = refl

flag_back : (b : Bool) → or_default false as_bool (true_if b) ≡ Some b
flag_back true = refl
flag_back false = refl

-- what may be absent
absent_back : {A : Type 0} (f : Data → Option A) (g : A → Data) (o : Option A) → ((a : A) → f (g a) ≡ Some a) → or_default None (present f) (option_map g o) ≡ Some o
absent_back f g None h = refl
absent_back f g (Some a) h = ap (option_map (λ x. Some x)) (h a)

-- ---- the least forms of names, where there are any

abbrev held : List DisambiguatedNameForm → Option NameDisambiguationProperties
held forms = Some (record { forms = forms })

abbrev names_in : Option Data → Option NameDisambiguationProperties
names_in o = option_and_then held (option_and_then (all_items (one_of written_name_forms)) (option_and_then as_array o))

abbrev least_in : Option Data → Option (Option NameDisambiguationProperties)
least_in o = cond (is_some o) (option_map (λ x. Some x) (names_in o)) (Some None)

least_in_back : (names : Option NameDisambiguationProperties) → least_in (option_map names_data names) ≡ Some names
least_in_back None = refl
least_in_back (Some names) = ap (λ o. option_map (λ x. Some x) (option_and_then held o)) (forms_back names.forms)

least_back : (d : Data) (names : Option NameDisambiguationProperties) → get (codes "names") d ≡ option_map names_data names → least_names d ≡ Some names
unfolding names_form
least_back d names h = ap least_in h ∙ least_in_back names

-- ---- what an object says of a cite

record SaysStanding (d : Data) (s : Standing) : Type 0 where
  note : get (codes "note") d ≡ option_map count_data s.note_number
  first_note : get (codes "first_note") d ≡ option_map count_data s.first_note_number
  near_note : get (codes "near_note") d ≡ true_if s.is_near_note
  first : get (codes "first") d ≡ true_if s.is_first
  ibid : get (codes "repeats") d ≡ option_map string (repeats_name s.ibid)
  number : get (codes "number") d ≡ Some (count_data s.citation_number)
  locator : get (codes "locator") d ≡ option_map locator_data s.locator
  state : get (codes "state") d ≡ state_data s.disambiguation
  usage : get (codes "usage") d ≡ option_map string (usage_name s.identifier_usage)
  names : get (codes "names") d ≡ option_map names_data s.means.names
  choose : get (codes "choose") d ≡ true_if s.means.choose
  suffix : get (codes "suffix") d ≡ option_map count_data s.means.suffix

then : {A B : Type 0} (o : Option A) (a : A) (f : A → Option B) (r : Option B) → o ≡ Some a → f a ≡ r → option_and_then f o ≡ r
then o a f r e h = ap (option_and_then f) e ∙ h

standing_back : (d : Data) (s : Standing) → SaysStanding d s → standing_form d ≡ Some s
unfolding standing_form
standing_back d s h =
    then (where_present whole (codes "note") d) s.note_number _ _ (ap (or_default None (present whole)) h.note ∙ absent_back whole count_data s.note_number (λ n. refl))
    (then (where_present whole (codes "first_note") d) s.first_note_number _ _ (ap (or_default None (present whole)) h.first_note ∙ absent_back whole count_data s.first_note_number (λ n. refl))
    (then (flag (codes "near_note") d) s.is_near_note _ _ (ap (or_default false as_bool) h.near_note ∙ flag_back s.is_near_note)
    (then (flag (codes "first") d) s.is_first _ _ (ap (or_default false as_bool) h.first ∙ flag_back s.is_first)
    (then (optional IbidState.Different (one_of ibid_states) (codes "repeats") d) s.ibid _ _ (ap (or_default IbidState.Different (one_of ibid_states)) h.ibid ∙ ibid_back s.ibid)
    (then (required whole (codes "number") d) s.citation_number _ _ (ap (option_and_then whole) h.number)
    (then (where_present counted_locator_form (codes "locator") d) s.locator _ _ (ap (or_default None (present counted_locator_form)) h.locator ∙ absent_back counted_locator_form locator_data s.locator locator_back)
    (then (optional DisambiguateState.None state_form (codes "state") d) s.disambiguation _ _ (ap (or_default DisambiguateState.None state_form) h.state ∙ state_back s.disambiguation)
    (then (least_names d) s.means.names _ _ (least_back d s.means.names h.names)
    (then (flag (codes "choose") d) s.means.choose _ _ (ap (or_default false as_bool) h.choose ∙ flag_back s.means.choose)
    (then (where_present whole (codes "suffix") d) s.means.suffix _ _ (ap (or_default None (present whole)) h.suffix ∙ absent_back whole count_data s.means.suffix (λ n. refl))
    (then (optional IdentifierUsage.None (one_of usages) (codes "usage") d) s.identifier_usage _ _ (ap (or_default IdentifierUsage.None (one_of usages)) h.usage ∙ usage_back s.identifier_usage)
    refl)))))))))))

-- ---- tasks, by their kinds

module _ (k : TaskKey) where
  there : (key : List ℕ) → get key (task_data k) ≡ field_at (key_fields k) key None
  there key = found_field (key_fields k) key no_members

  only : (keys : List (List ℕ)) → list_all (allows (is_one_of keys)) (key_fields k) ≡ true
      → object_with keys (task_data k) ≡ Some (task_data k)
  only keys h = ap (λ b. cond b (Some (task_data k)) None) (fields_each (is_one_of keys) (key_fields k) no_members h refl)

-- ---- what the data of a task says

abbrev of_part : TaskKey → TaskPart → TaskKey
of_part k part = record { style = k.style; locale = k.locale; entry = k.entry; place = k.place; part = part }

-- an item at a place
abbrev item_at : TaskKey → Standing → LastPlace → TaskKey
item_at k s place = record { style = k.style; locale = k.locale; entry = k.entry; place = place; part = TaskPart.Item s }

cite_says : (k : TaskKey) (s : Standing) (purpose : Option CitePurpose) (verdict : Option CollapseVerdict)
    → SaysStanding (task_data (of_part k (TaskPart.Cite s purpose verdict))) s
cite_says k s purpose verdict =
    let t = of_part k (TaskPart.Cite s purpose verdict) in
    record {
      note = there t (codes "note") ∙ first_of_none (option_map count_data s.note_number);
      first_note = there t (codes "first_note") ∙ first_of_none (option_map count_data s.first_note_number);
      near_note = there t (codes "near_note") ∙ first_of_none (true_if s.is_near_note);
      first = there t (codes "first") ∙ first_of_none (true_if s.is_first);
      ibid = there t (codes "repeats") ∙ first_of_none (option_map string (repeats_name s.ibid));
      number = there t (codes "number");
      locator = there t (codes "locator") ∙ first_of_none (option_map locator_data s.locator);
      state = there t (codes "state") ∙ first_of_none (state_data s.disambiguation);
      usage = there t (codes "usage") ∙ first_of_none (option_map string (usage_name s.identifier_usage));
      names = there t (codes "names") ∙ first_of_none (option_map names_data s.means.names);
      choose = there t (codes "choose") ∙ first_of_none (true_if s.means.choose);
      suffix = there t (codes "suffix") ∙ first_of_none (option_map count_data s.means.suffix);
    }

item_says : (k : TaskKey) (s : Standing) → SaysStanding (task_data (of_part k (TaskPart.Item s))) s
item_says k s =
    let t = of_part k (TaskPart.Item s) in
    record {
      note = there t (codes "note") ∙ first_of_none (option_map count_data s.note_number);
      first_note = there t (codes "first_note") ∙ first_of_none (option_map count_data s.first_note_number);
      near_note = there t (codes "near_note") ∙ first_of_none (true_if s.is_near_note);
      first = there t (codes "first") ∙ first_of_none (true_if s.is_first);
      ibid = there t (codes "repeats") ∙ first_of_none (option_map string (repeats_name s.ibid));
      number = there t (codes "number");
      locator = there t (codes "locator") ∙ first_of_none (option_map locator_data s.locator);
      state = there t (codes "state") ∙ first_of_none (state_data s.disambiguation);
      usage = there t (codes "usage") ∙ first_of_none (option_map string (usage_name s.identifier_usage));
      names = there t (codes "names") ∙ first_of_none (option_map names_data s.means.names);
      choose = there t (codes "choose") ∙ first_of_none (true_if s.means.choose);
      suffix = there t (codes "suffix") ∙ first_of_none (option_map count_data s.means.suffix);
    }

record SaysKey (d : Data) (k : TaskKey) : Type 0 where
  style : get (codes "style") d ≡ Some (string k.style)
  locale : get (codes "locale") d ≡ Some (string k.locale)
  entry : get (codes "entry") d ≡ Some (string k.entry)
  place : get (codes "place") d ≡ option_map place_data k.place

key_says : (k : TaskKey) (part : TaskPart) → SaysKey (task_data (of_part k part)) k
key_says k (TaskPart.Cite s purpose verdict) =
    let t = of_part k (TaskPart.Cite s purpose verdict) in
    record {
      style = there t (codes "style");
      locale = there t (codes "locale");
      entry = there t (codes "entry");
      place = there t (codes "place") ∙ first_of_none (option_map place_data k.place);
    }
key_says k (TaskPart.Item s) =
    let t = of_part k (TaskPart.Item s) in
    record {
      style = there t (codes "style");
      locale = there t (codes "locale");
      entry = there t (codes "entry");
      place = there t (codes "place") ∙ first_of_none (option_map place_data k.place);
    }
key_says k (TaskPart.Date suffix) =
    let t = of_part k (TaskPart.Date suffix) in
    record {
      style = there t (codes "style");
      locale = there t (codes "locale");
      entry = there t (codes "entry");
      place = there t (codes "place") ∙ first_of_none (option_map place_data k.place);
    }

-- ---- what is read

cite_back : (k : TaskKey) (s : Standing) (purpose : Option CitePurpose) (verdict : Option CollapseVerdict)
    → cite_task_form (task_data (of_part k (TaskPart.Cite s purpose verdict))) ≡ Some (TaskPart.Cite s purpose verdict)
unfolding cite_task_form
cite_back k s purpose verdict =
    let t = of_part k (TaskPart.Cite s purpose verdict) in
    let d = task_data t in
    let keys = task_keys ++ standing_keys ++ codes "place" ∷ codes "purpose" ∷ codes "verdict" ∷ [] in
    let name = λ (p : CitePurpose). string (purpose_name p) in
    let cut = λ (v : CollapseVerdict). string (verdict_name v) in
    then (object_with keys d) d _ _ (only t keys refl)
    (then (standing_form d) s _ _ (standing_back d s (cite_says k s purpose verdict))
    (then (where_present (one_of purposes) (codes "purpose") d) purpose _ _
    (ap (or_default None (present (one_of purposes))) (there t (codes "purpose") ∙ first_of_none (option_map name purpose)) ∙ absent_back (one_of purposes) name purpose purpose_back)
    (then (where_present (one_of verdicts) (codes "verdict") d) verdict _ _
    (ap (or_default None (present (one_of verdicts))) (there t (codes "verdict") ∙ first_of_none (option_map cut verdict)) ∙ absent_back (one_of verdicts) cut verdict verdict_back)
    refl)))

item_back : (k : TaskKey) (s : Standing) → item_task_form (task_data (item_at k s None)) ≡ Some (TaskPart.Item s)
unfolding item_task_form
item_back k s =
    let t = item_at k s None in
    let d = task_data t in
    let keys = task_keys ++ standing_keys in
    then (object_with keys d) d _ _ (only t keys refl)
    (ap (option_map TaskPart.Item) (standing_back d s (item_says t s)))

date_back : (k : TaskKey) (suffix : Option ℕ) → date_task_form (task_data (of_part k (TaskPart.Date suffix))) ≡ Some (TaskPart.Date suffix)
unfolding date_task_form
date_back k suffix =
    let t = of_part k (TaskPart.Date suffix) in
    let d = task_data t in
    let keys = task_keys ++ codes "place" ∷ codes "suffix" ∷ [] in
    then (object_with keys d) d _ _ (only t keys refl)
    (ap (option_map TaskPart.Date)
    (ap (or_default None (present whole)) (there t (codes "suffix") ∙ first_of_none (option_map count_data suffix)) ∙ absent_back whole count_data suffix (λ n. refl)))

kind_read : (d : Data) (kind : TaskKind) (name : List ℕ) → get (codes "kind") d ≡ Some (string name) → one_of kinds (string name) ≡ Some kind
    → part_form d ≡ kind_task_form kind d
kind_read d kind name e h = ap (option_and_then (λ it. kind_task_form it d)) (ap (option_and_then (one_of kinds)) e ∙ h)

part_back : (k : TaskKey) (part : TaskPart) → HasFittingPlace part k.place → part_form (task_data (of_part k part)) ≡ Some part
part_back k (TaskPart.Cite s purpose verdict) h =
    let t = of_part k (TaskPart.Cite s purpose verdict) in
    kind_read (task_data t) TaskKind.Cite (codes "cite") (there t (codes "kind")) refl ∙ cite_back k s purpose verdict
part_back k (TaskPart.Item s) h =
    let t = item_at k s None in
    subst (λ (place : LastPlace). part_form (task_data (item_at k s place)) ≡ Some (TaskPart.Item s)) (sym h)
    (kind_read (task_data t) TaskKind.Item (codes "item") (there t (codes "kind")) refl ∙ item_back k s)
part_back k (TaskPart.Date suffix) h =
    let t = of_part k (TaskPart.Date suffix) in
    kind_read (task_data t) TaskKind.Date (codes "date") (there t (codes "kind")) refl ∙ date_back k suffix

key_back : (k : TaskKey) (part : TaskPart) → HasFittingPlace part k.place → key_form (task_data (of_part k part)) ≡ Some (of_part k part)
unfolding key_form
key_back k part placed =
    let d = task_data (of_part k part) in
    let says = key_says k part in
    then (part_form d) part _ _ (part_back k part placed)
    (then (required as_str (codes "style") d) k.style _ _ (ap (option_and_then as_str) says.style)
    (then (required as_str (codes "locale") d) k.locale _ _ (ap (option_and_then as_str) says.locale)
    (then (required as_str (codes "entry") d) k.entry _ _ (ap (option_and_then as_str) says.entry)
    (then (where_present place_form (codes "place") d) k.place _ _
    (ap (or_default None (present place_form)) says.place ∙ absent_back place_form place_data k.place place_back)
    refl))))

pub tasks_read_back : TasksReadBack
tasks_read_back k placed = key_back k k.part placed
