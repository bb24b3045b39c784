-- The data of a task has no floats, and nests little.
use Rattle.std.proofs.Common.{◌≡◌, ℕ, ◌≤◌, ◌||◌, List, [], ◌∷◌, map, Bool, true, false, Option, Some, None, option_map, refl, arith}
use Rattle.std.specs.Ordering.{nat_cmp, match_ordering}
use Rattle.std.specs.Cmp.Lexicographic.{slice_cmp}
use Rattle.std.specs.declared.cmp.Ordering.{Ordering}
use Rattle.std.specs.declared.cmp.Ordering.TheVariants.{Less, Equal, Greater}
use Rattle.serde_json.specs.Data.{Data, string, Members, no_members, member, put, depth, members_depth, items_depth}
use Rattle.serde_json.specs.Read.{max_depth}
use Rattle.serde_json.specs.View.{items_of}
use Rattle.serde_json.specs.Written.{has_float, items_have_float, members_have_float}
use Rattle.value_sources.specs.declared.names.DisambiguatedNameForm.{DisambiguatedNameForm}
use Rattle.value_sources.specs.declared.names.NameDisambiguationProperties.{NameDisambiguationProperties}
use Rattle.driver_lookup.specs.declared.means.Means.{Means}
use Rattle.driver_lookup.specs.declared.purpose.CitePurpose.{CitePurpose}
use Rattle.driver_lookup.specs.declared.state.CollapseVerdict.{CollapseVerdict}
use Rattle.driver_lookup.specs.declared.state.DisambiguateState.{DisambiguateState}
use Rattle.host_memo.specs.declared.key.Standing.{Standing}
use Rattle.host_memo.specs.declared.key.TaskKey.{TaskKey}
use Rattle.host_memo.specs.declared.key.TaskPart.{TaskPart}
use Rattle.document_tasks.specs.TaskNames.{form_name, purpose_name, repeats_name, usage_name, verdict_name}
use Rattle.document_tasks.specs.TaskData.{Fields, put_if, put_fields, count_data, true_if, place_data, locator_data, names_data, state_data, means_fields, standing_fields, part_fields, key_fields, task_data}

-- it has no floats, and nests at most n deep
pub record IsPlain (n : ℕ) (d : Data) : Type 0 where
  pub floats : has_float d ≡ false
  pub nests : depth d ≤ n

record ArePlain (n : ℕ) (ms : Members) : Type 0 where
  floats : members_have_float ms ≡ false
  nests : members_depth ms ≤ n

-- what is there is plain
abbrev IfPlain : ℕ → Option Data → Type 0
IfPlain n None = Unit {0}
IfPlain n (Some d) = IsPlain n d

abbrev FieldsPlain : ℕ → Fields → Type 0
FieldsPlain n [] = Unit {0}
FieldsPlain n (field ∷ fields) = IfPlain n field.1 × FieldsPlain n fields

plain_member : (n : ℕ) (k : List ℕ) (d : Data) (ms : Members) → IsPlain n d → ArePlain n ms → ArePlain n (member k d ms)
plain_member n k d ms p q = record { floats = rw p.floats q.floats; nests = let a = p.nests in let b = q.nests in omega (arith, a, b) }

rest_plain : (n : ℕ) (k : List ℕ) (d : Data) (ms : Members) → ArePlain n (member k d ms) → ArePlain n ms
rest_plain n k d ms q = record { floats = by (has_float d) q.floats; nests = let b = q.nests in omega (arith, b) }
  where
    by : (b : Bool) → b || members_have_float ms ≡ false → members_have_float ms ≡ false
    by true e = cc
    by false e = e

first_plain : (n : ℕ) (k : List ℕ) (d : Data) (ms : Members) → ArePlain n (member k d ms) → IsPlain n d
first_plain n k d ms q = record { floats = by (has_float d) q.floats; nests = let b = q.nests in omega (arith, b) }
  where
    by : (b : Bool) → b || members_have_float ms ≡ false → b ≡ false
    by true e = cc
    by false e = refl

put_plain : (n : ℕ) (k : List ℕ) (d : Data) (ms : Members) → IsPlain n d → ArePlain n ms → ArePlain n (put k d ms)
put_plain n k d no_members p q = plain_member n k d no_members p q
put_plain n k d (member l e ms) p q = by (put_plain n k d ms p (rest_plain n l e ms q)) (slice_cmp nat_cmp k l)
  where
    by : ArePlain n (put k d ms) → (o : Ordering) → ArePlain n (match_ordering o (member k d (member l e ms)) (member l d ms) (member l e (put k d ms)))
    by later Less = plain_member n k d (member l e ms) p q
    by later Equal = plain_member n l d ms p (rest_plain n l e ms q)
    by later Greater = plain_member n l e (put k d ms) (first_plain n l e ms q) later

put_if_plain : (n : ℕ) (k : List ℕ) (o : Option Data) (ms : Members) → IfPlain n o → ArePlain n ms → ArePlain n (put_if k o ms)
put_if_plain n k None ms p q = q
put_if_plain n k (Some d) ms p q = put_plain n k d ms p q

fields_plain : (n : ℕ) (fields : Fields) (ms : Members) → FieldsPlain n fields → ArePlain n ms → ArePlain n (put_fields fields ms)
fields_plain n [] ms p q = q
fields_plain n (field ∷ fields) ms p q = fields_plain n fields (put_if field.0 field.1 ms) p.1 (put_if_plain n field.0 field.1 ms p.0 q)

-- ---- the fields of a task

leaf : (d : Data) → has_float d ≡ false → depth d ≤ 2 → IsPlain 2 d
leaf d f h = record { floats = f; nests = h }

each : {A : Type 0} (f : A → Data) (o : Option A) → ((a : A) → IsPlain 2 (f a)) → IfPlain 2 (option_map f o)
each f None h = tt
each f (Some a) h = h a

truth : (b : Bool) → IfPlain 2 (true_if b)
truth true = leaf _ refl (omega arith)
truth false = tt

text_plain : (s : List ℕ) → IsPlain 2 (string s)
text_plain s = leaf (string s) refl (omega arith)

count_plain : (n : ℕ) → IsPlain 2 (count_data n)
count_plain n = leaf (count_data n) refl (omega arith)

forms_floats : (forms : List DisambiguatedNameForm) → items_have_float (items_of (map (λ form. string (form_name form)) forms)) ≡ false
forms_floats [] = refl
forms_floats (form ∷ forms) = forms_floats forms

forms_depth : (forms : List DisambiguatedNameForm) → items_depth (items_of (map (λ form. string (form_name form)) forms)) ≤ 0
forms_depth [] = omega arith
forms_depth (form ∷ forms) = let h = forms_depth forms in omega (arith, h)

state_plain : (s : DisambiguateState) → IfPlain 2 (state_data s)
state_plain DisambiguateState.None = tt
state_plain (DisambiguateState.NameDisambiguation names) =
    let h = forms_depth names.forms in
    leaf _ (rw (forms_floats names.forms) refl) (omega (arith, h))
state_plain DisambiguateState.Choose = text_plain _
state_plain (DisambiguateState.YearSuffix n) = leaf _ refl (omega arith)

names_plain : (names : NameDisambiguationProperties) → IsPlain 2 (names_data names)
names_plain names =
    let h = forms_depth names.forms in
    leaf _ (rw (forms_floats names.forms) refl) (omega (arith, h))

means_plain : (m : Means) → FieldsPlain 2 (means_fields m)
means_plain m = (each names_data m.names names_plain, (truth m.choose, (each count_data m.suffix count_plain, tt)))

standing_plain : (s : Standing) → FieldsPlain 2 (standing_fields s)
standing_plain s = (
  each count_data s.note_number count_plain,
  (
    each count_data s.first_note_number count_plain,
    (
      truth s.is_near_note,
      (
        truth s.is_first,
        (
          each string (repeats_name s.ibid) text_plain,
          (
            count_plain s.citation_number,
            (
              each locator_data s.locator (λ l. leaf _ refl (omega arith)),
              (state_plain s.disambiguation, (each string (usage_name s.identifier_usage) text_plain, means_plain s.means)),
            ),
          ),
        ),
      ),
    ),
  ),
)

part_plain : (p : TaskPart) → FieldsPlain 2 (part_fields p)
part_plain (TaskPart.Cite standing purpose verdict) = (
  text_plain _,
  (
    each (λ (x : CitePurpose). string (purpose_name x)) purpose (λ x. text_plain _),
    (each (λ (x : CollapseVerdict). string (verdict_name x)) verdict (λ x. text_plain _), standing_plain standing),
  ),
)
part_plain (TaskPart.Item standing) = (text_plain _, standing_plain standing)
part_plain (TaskPart.Date suffix) = (text_plain _, (each count_data suffix count_plain, tt))

key_plain : (k : TaskKey) → FieldsPlain 2 (key_fields k)
key_plain k = (text_plain k.style, (text_plain k.locale, (text_plain k.entry, (each place_data k.place (λ p. leaf _ refl (omega arith)), part_plain k.part))))

members_plain : (k : TaskKey) → ArePlain 2 (put_fields (key_fields k) no_members)
members_plain k = fields_plain 2 (key_fields k) no_members (key_plain k) (record { floats = refl; nests = omega arith })

pub task_has_no_float : (k : TaskKey) → has_float (task_data k) ≡ false
task_has_no_float k = (members_plain k).floats

pub task_nests_little : (k : TaskKey) → depth (task_data k) ≤ max_depth
task_nests_little k = let h = (members_plain k).nests in omega (arith, h)
