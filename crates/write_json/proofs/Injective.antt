-- Equal data comes of equal values.
use Rattle.std.proofs.Common.{◌≡◌, ◌<◌, ℕ, pos, negsuc, true, List, [], ◌∷◌, Option, Some, None, map, option_map, false, if◌then◌else◌, refl, ap, sym, subst, ◌∙◌, true≢false}
use Rattle.std.proofs.Math.Bridge.{le_prop}
use Rattle.std.specs.Prelude.{codes, nat_eq, slice_index, unsigned_abs, bytes_eq}
use Rattle.std.proofs.lemmas.Slice.Eq.{bytes_eq-Decides}
use Rattle.std.specs.Cmp.{unsigned_Decides}
use Rattle.std.specs.declared.num.NonZeroI16.{NonZeroI16}
use mathlib.Core.HLevel.{is_prop→PathP}
use Rattle.serde_json.specs.Data.{Data, Members, member, no_members, string}
use Rattle.serde_json.specs.Find.{of_integer}
use Rattle.serde_json.specs.View.{items_of}
use Rattle.value_trees.proofs.Compare.{child_view-inj, kids_of-inj}
use Rattle.value_trees.specs.Child.{Child, text, elem, markup, link, transparent, Kids, no_kids, kid, kids_of}
use Rattle.value_trees.specs.ChildView.{child_view}
use Rattle.value_trees.specs.declared.elem.ElemChild.{ElemChild}
use Rattle.value_trees.specs.declared.elem.ElemMeta.{ElemMeta}
use Rattle.value_trees.specs.declared.elem.ElemMeta.TheVariants as meta
use Rattle.value_sources.specs.declared.formatting.Display.{Display}
use Rattle.value_sources.specs.declared.formatting.Display.TheVariants as shown
use Rattle.value_sources.specs.declared.formatting.FontStyle.TheVariants as style
use Rattle.value_sources.specs.declared.formatting.FontVariant.{FontVariant}
use Rattle.value_sources.specs.declared.formatting.FontVariant.TheVariants as variant
use Rattle.value_sources.specs.declared.formatting.FontWeight.TheVariants as weight
use Rattle.value_sources.specs.declared.formatting.TextDecoration.{TextDecoration}
use Rattle.value_sources.specs.declared.formatting.TextDecoration.TheVariants as decoration
use Rattle.value_sources.specs.declared.formatting.VerticalAlign.{VerticalAlign}
use Rattle.value_sources.specs.declared.formatting.VerticalAlign.TheVariants as height
use Rattle.value_sources.specs.declared.formatting.Formatted.{Formatted}
use Rattle.value_sources.specs.declared.formatting.Formatting.{Formatting}
use Rattle.value_styles.specs.declared.style.SecondFieldAlign.{SecondFieldAlign}
use Rattle.value_styles.specs.declared.style.SecondFieldAlign.TheVariants as align
use Rattle.value_sources.specs.declared.taxonomy.NameVariable.TheVariants as names
use Rattle.value_sources.proofs.Told.{spacings_equal}
use Rattle.driver_assembly.specs.declared.rendered.RenderedBibliography.{RenderedBibliography}
use Rattle.write_json.specs.AnswerData.{align_name, item_data, bibliography_data, citation_data, answer_data}
use Rattle.write_json.specs.Members.{member_if}
use Rattle.write_json.specs.MetaData.{variable_name, person_data, names_data, meta_data}
use Rattle.write_json.specs.TreeData.{style_name, weight_name, variant_name, decoration_name, vertical_name, with_formatting, display_name, child_data, kids_data, children_data}

-- values of equal data are equal
abbrev Tells : {A D : Type 0} → (A → D) → Type 0
Tells {A = A} f = (a b : A) → f a ≡ f b → a ≡ b

items_tell : {A : Type 0} (f : A → Data) → Tells f → (xs ys : List A) → items_of (map f xs) ≡ items_of (map f ys) → xs ≡ ys
items_tell f tells [] [] p = refl
items_tell f tells (x ∷ xs) (y ∷ ys) p =
    let first : f x ≡ f y = cc in
    let rest : items_of (map f xs) ≡ items_of (map f ys) = cc in
    let a = tells x y first in
    let b = items_tell f tells xs ys rest in
    λ i. a i ∷ b i
items_tell f tells _ _ p = cc

options_tell : {A D : Type 0} (f : A → D) → Tells f → (a b : Option A) → option_map f a ≡ option_map f b → a ≡ b
options_tell f tells None None p = refl
options_tell f tells (Some x) (Some y) p = let same : f x ≡ f y = cc in ap Some (tells x y same)
options_tell f tells None (Some y) p = cc
options_tell f tells (Some x) None p = cc

-- names that begin differently are different
first-same : (a b : List ℕ) → a ≡ b → nat_eq (slice_index a 0) (slice_index b 0) ≡ true
first-same a b p = ap (λ l. nat_eq (slice_index a 0) (slice_index l 0)) (sym p) ∙ (unsigned_Decides (slice_index a 0) (slice_index a 0)).1 refl

styles_tell : Tells style_name
styles_tell style.Normal style.Normal p = refl
styles_tell style.Italic style.Italic p = refl
styles_tell _ _ p = absurd (true≢false (sym (first-same _ _ p)))

weights_tell : Tells weight_name
weights_tell weight.Normal weight.Normal p = refl
weights_tell weight.Bold weight.Bold p = refl
weights_tell _ _ p = absurd (true≢false (sym (first-same _ _ p)))

displays_tell : Tells display_name
displays_tell shown.Block shown.Block p = refl
displays_tell shown.LeftMargin shown.LeftMargin p = refl
displays_tell shown.RightInline shown.RightInline p = refl
displays_tell shown.Indent shown.Indent p = refl
displays_tell _ _ p = absurd (true≢false (sym (first-same _ _ p)))

aligns_tell : Tells align_name
aligns_tell align.Flush align.Flush p = refl
aligns_tell align.Margin align.Margin p = refl
aligns_tell _ _ p = absurd (true≢false (sym (first-same _ _ p)))

variables_tell : Tells variable_name
variables_tell names.Author names.Author p = refl
variables_tell names.Editor names.Editor p = refl
variables_tell names.Translator names.Translator p = refl
variables_tell _ _ p = absurd (true≢false (sym (first-same _ _ p)))

integers_tell : Tells of_integer
integers_tell (pos m) (pos n) p = let same : m ≡ n = cc in ap pos same
integers_tell (negsuc m) (negsuc n) p = cc
integers_tell (pos m) (negsuc n) p = cc
integers_tell (negsuc m) (pos n) p = cc

persons_tell : Tells person_data
persons_tell a b p =
    let given : (x y : Option (List ℕ)) → person_data (record { name = a.name; given_name = x }) ≡ person_data (record { name = b.name; given_name = y }) → (a.name ≡ b.name) × (x ≡ y) = given_tell a.name b.name in
    let same = given a.given_name b.given_name p in
    λ i. record { name = same.0 i; given_name = same.1 i }
  where
    given_tell : (m n : List ℕ) (x y : Option (List ℕ)) → person_data (record { name = m; given_name = x }) ≡ person_data (record { name = n; given_name = y }) → (m ≡ n) × (x ≡ y)
    given_tell m n None None p = let same : m ≡ n = cc in (same, refl)
    given_tell m n (Some x) (Some y) p =
        let same : m ≡ n = cc in
        let given : x ≡ y = cc in
        (same, ap Some given)
    given_tell m n None (Some y) p = cc
    given_tell m n (Some x) None p = cc

names_tell : Tells names_data
names_tell a b p =
    let persons : items_of (map person_data a.0) ≡ items_of (map person_data b.0) = cc in
    let variable : variable_name a.1 ≡ variable_name b.1 = cc in
    let x = items_tell person_data persons_tell a.0 b.0 persons in
    let y = variables_tell a.1 b.1 variable in
    λ i. (x i, y i)

metas_tell : Tells meta_data
metas_tell (meta.Names xs) (meta.Names ys) p =
    let names : items_of (map names_data xs) ≡ items_of (map names_data ys) = cc in
    ap meta.Names (items_tell names_data names_tell xs ys names)
metas_tell (meta.Name v m) (meta.Name w n) p =
    let place : m ≡ n = cc in
    let name : variable_name v ≡ variable_name w = cc in
    let x = variables_tell v w name in
    λ i. meta.Name (x i) (place i)
metas_tell meta.Date meta.Date p = refl
metas_tell meta.CitationNumber meta.CitationNumber p = refl
metas_tell meta.CitationLabel meta.CitationLabel p = refl
metas_tell (meta.Entry m) (meta.Entry n) p = let same : m ≡ n = cc in ap meta.Entry same
metas_tell _ _ p = cc

variants_tell : Tells variant_name
variants_tell a b p = sym (back a) ∙ ap named p ∙ back b
  where
    named : Option (List ℕ) → FontVariant
    named None = variant.Normal
    named (Some s) = variant.SmallCaps

    back : (a : FontVariant) → named (variant_name a) ≡ a
    back variant.Normal = refl
    back variant.SmallCaps = refl

decorations_tell : Tells decoration_name
decorations_tell a b p = sym (back a) ∙ ap named p ∙ back b
  where
    named : Option (List ℕ) → TextDecoration
    named None = decoration.None
    named (Some s) = decoration.Underline

    back : (a : TextDecoration) → named (decoration_name a) ≡ a
    back decoration.None = refl
    back decoration.Underline = refl

verticals_tell : Tells vertical_name
verticals_tell a b p = sym (back a) ∙ ap named p ∙ back b
  where
    named : Option (List ℕ) → VerticalAlign
    named None = height.None
    named (Some s) = if bytes_eq s (codes "baseline") then height.Baseline else (if bytes_eq s (codes "sup") then height.Superscript else height.Subscript)

    back : (a : VerticalAlign) → named (vertical_name a) ≡ a
    back height.None = refl
    back height.Baseline = refl
    back height.Superscript = refl
    back height.Subscript = refl

strings_tell : Tells string
strings_tell a b p = cc

-- the first of these members has this key
abbrev Begins : List ℕ → Members → Type 0
Begins k no_members = ⊥
Begins k (member l d ms) = k ≡ l

differ : (a b : List ℕ) → bytes_eq a b ≡ false → a ≡ b → ⊥
differ a b other p = true≢false (sym ((bytes_eq-Decides a b).1 p) ∙ other)

later-begins : (k l : List ℕ) → (k ≡ l → ⊥) → (d : Option Data) (ms : Members) → (Begins k ms → ⊥) → Begins k (member_if l d ms) → ⊥
later-begins k l apart None ms free p = free p
later-begins k l apart (Some d) ms free p = apart p

-- a member that may be absent, before members that don't begin with its key
one_tells : (k : List ℕ) (x y : Option Data) (ms ns : Members) → (Begins k ms → ⊥) → (Begins k ns → ⊥) → member_if k x ms ≡ member_if k y ns → (x ≡ y) × (ms ≡ ns)
one_tells k None None ms ns free free' p = (refl, p)
one_tells k (Some d) (Some e) ms ns free free' p =
    let same : d ≡ e = cc in
    let rest : ms ≡ ns = cc in
    (ap Some same, rest)
one_tells k None (Some e) ms ns free free' p = absurd (free (subst (Begins k) (sym p) refl))
one_tells k (Some d) None ms ns free free' p = absurd (free' (subst (Begins k) p refl))

-- these members don't begin with a member of a formatting that may be absent
abbrev Free : Members → Type 0
Free ms = (Begins (codes "font_variant") ms → ⊥) × (Begins (codes "text_decoration") ms → ⊥) × (Begins (codes "vertical_align") ms → ⊥)

abbrev rest_of : Formatting → Members → Members
rest_of f ms = member_if (codes "font_variant") (option_map string (variant_name f.font_variant))
    (member_if (codes "text_decoration") (option_map string (decoration_name f.text_decoration))
    (member_if (codes "vertical_align") (option_map string (vertical_name f.vertical_align)) ms))

rests_tell : (f g : Formatting) (ms ns : Members) → Free ms → Free ns → rest_of f ms ≡ rest_of g ns
    → (f.font_variant ≡ g.font_variant) × (f.text_decoration ≡ g.text_decoration) × (f.vertical_align ≡ g.vertical_align) × (ms ≡ ns)
rests_tell f g ms ns free free' p =
    let third : Formatting → Members → Members = λ h os. member_if (codes "vertical_align") (option_map string (vertical_name h.vertical_align)) os in
    let second : Formatting → Members → Members = λ h os. member_if (codes "text_decoration") (option_map string (decoration_name h.text_decoration)) (third h os) in
    let after_third : (h : Formatting) (os : Members) → (Begins (codes "text_decoration") os → ⊥) → Begins (codes "text_decoration") (third h os) → ⊥ =
    λ h os free. later-begins _ _ (differ _ _ refl) (option_map string (vertical_name h.vertical_align)) os free in
    let after_second : (h : Formatting) (os : Members) → (Begins (codes "font_variant") os → ⊥) → Begins (codes "font_variant") (second h os) → ⊥ =
    λ h os free. later-begins _ _ (differ _ _ refl) (option_map string (decoration_name h.text_decoration)) (third h os)
    (later-begins _ _ (differ _ _ refl) (option_map string (vertical_name h.vertical_align)) os free) in
    let one = one_tells (codes "font_variant") (option_map string (variant_name f.font_variant)) (option_map string (variant_name g.font_variant))
    (second f ms) (second g ns) (after_second f ms free.0) (after_second g ns free'.0) p in
    let two = one_tells (codes "text_decoration") (option_map string (decoration_name f.text_decoration)) (option_map string (decoration_name g.text_decoration))
    (third f ms) (third g ns) (after_third f ms free.1) (after_third g ns free'.1) one.1 in
    let three = one_tells (codes "vertical_align") (option_map string (vertical_name f.vertical_align)) (option_map string (vertical_name g.vertical_align))
    ms ns free.2 free'.2 two.1 in (
      variants_tell _ _ (options_tell string strings_tell _ _ one.0),
      decorations_tell _ _ (options_tell string strings_tell _ _ two.0),
      verticals_tell _ _ (options_tell string strings_tell _ _ three.0),
      three.1,
    )

formattings_tell : (f g : Formatting) (ms ns : Members) → Free ms → Free ns → with_formatting f ms ≡ with_formatting g ns → (f ≡ g) × (ms ≡ ns)
formattings_tell f g ms ns free free' p =
    let styles : style_name f.font_style ≡ style_name g.font_style = cc in
    let weights : weight_name f.font_weight ≡ weight_name g.font_weight = cc in
    let rest : rest_of f ms ≡ rest_of g ns = cc in
    let x = styles_tell f.font_style g.font_style styles in
    let y = weights_tell f.font_weight g.font_weight weights in
    let z = rests_tell f g ms ns free free' rest in
    (λ i. record { font_style = x i; font_variant = z.0 i; font_weight = y i; text_decoration = z.1 i; vertical_align = z.2 i }, z.3)

free-none : Free no_members
free-none = (λ p. p, λ p. p, λ p. p)

free-text : (s : List ℕ) (ms : Members) → Free (member (codes "text") (string s) ms)
free-text s ms = (differ _ _ refl, differ _ _ refl, differ _ _ refl)

texts_tell : (s t : List ℕ) (ms ns : Members) → member (codes "text") (string s) ms ≡ member (codes "text") (string t) ns → (s ≡ t) × (ms ≡ ns)
texts_tell s t ms ns p =
    let first : s ≡ t = cc in
    let rest : ms ≡ ns = cc in
    (first, rest)

-- two texts, each before members
formatted_tell : (f g : Formatted) (ms ns : Members)
    → with_formatting f.formatting (member (codes "text") (string f.text) ms) ≡ with_formatting g.formatting (member (codes "text") (string g.text) ns) → (f ≡ g) × (ms ≡ ns)
formatted_tell f g ms ns p =
    let same = formattings_tell f.formatting g.formatting _ _ (free-text f.text ms) (free-text g.text ns) p in
    let rest = texts_tell f.text g.text ms ns same.1 in
    (λ i. record { text = rest.0 i; formatting = same.0 i }, rest.1)

urls_tell : (s t : List ℕ) → member (codes "url") (string s) no_members ≡ member (codes "url") (string t) no_members → s ≡ t
urls_tell s t p = cc

no-member : (k : List ℕ) (d : Data) (ms : Members) → no_members ≡ member k d ms → ⊥
no-member k d ms p = cc

-- two members that may be absent, under different keys
two_tell : (k l : List ℕ) → (k ≡ l → ⊥) → (x y u v : Option Data) → member_if k x (member_if l u no_members) ≡ member_if k y (member_if l v no_members)
    → (x ≡ y) × (u ≡ v)
two_tell k l apart None None None None p = (refl, refl)
two_tell k l apart None None (Some u) (Some v) p = let same : u ≡ v = cc in (refl, ap Some same)
two_tell k l apart None None None (Some v) p = absurd (no-member l v no_members p)
two_tell k l apart None None (Some u) None p = absurd (no-member l u no_members (sym p))
two_tell k l apart (Some x) (Some y) None None p = let same : x ≡ y = cc in (ap Some same, refl)
two_tell k l apart (Some x) (Some y) (Some u) (Some v) p =
    let first : x ≡ y = cc in
    let second : u ≡ v = cc in
    (ap Some first, ap Some second)
two_tell k l apart (Some x) (Some y) None (Some v) p = let rest : no_members ≡ member l v no_members = cc in absurd (no-member l v no_members rest)
two_tell k l apart (Some x) (Some y) (Some u) None p = let rest : no_members ≡ member l u no_members = cc in absurd (no-member l u no_members rest)
two_tell k l apart None (Some y) None v p = absurd (no-member k y (member_if l v no_members) p)
two_tell k l apart None (Some y) (Some u) v p = let same : k ≡ l = cc in absurd (apart same)
two_tell k l apart (Some x) None u None p = absurd (no-member k x (member_if l u no_members) (sym p))
two_tell k l apart (Some x) None u (Some v) p = let same : k ≡ l = cc in absurd (apart same)

shown_data : Display → Data
shown_data d = string (display_name d)

shown_tell : Tells shown_data
unfolding shown_data
shown_tell a b p = let same : display_name a ≡ display_name b = cc in displays_tell a b same

-- of an element
elements_tell : (d e : Option Display) (m n : Option ElemMeta) (ks ls : Kids) → child_data (elem ks d m) ≡ child_data (elem ls e n)
    → (kids_data ks ≡ kids_data ls) × (d ≡ e) × (m ≡ n)
unfolding shown_data
elements_tell d e m n ks ls p =
    let same : kids_data ks ≡ kids_data ls = cc in
    let rest : member_if (codes "display") (option_map shown_data d) (member_if (codes "meta") (option_map meta_data m) no_members)
    ≡ member_if (codes "display") (option_map shown_data e) (member_if (codes "meta") (option_map meta_data n) no_members) = cc in
    let two = two_tell (codes "display") (codes "meta") (λ q. true≢false (sym (first-same (codes "display") (codes "meta") q)))
    (option_map shown_data d) (option_map shown_data e) (option_map meta_data m) (option_map meta_data n) rest in
    (same, options_tell shown_data shown_tell d e two.0, options_tell meta_data metas_tell m n two.1)

mutual
  children_tell : (c d : Child) → child_data c ≡ child_data d → c ≡ d
  children_tell (text f) (text g) p =
      let members : with_formatting f.formatting (member (codes "text") (string f.text) no_members)
      ≡ with_formatting g.formatting (member (codes "text") (string g.text) no_members) = cc in
      ap text (formatted_tell f g no_members no_members members).0
  children_tell (text f) (link g t) p =
      let members : with_formatting f.formatting (member (codes "text") (string f.text) no_members)
      ≡ with_formatting g.formatting (member (codes "text") (string g.text) (member (codes "url") (string t) no_members)) = cc in
      absurd (no-member _ _ _ (formatted_tell f g no_members (member (codes "url") (string t) no_members) members).1)
  children_tell (link f s) (text g) p =
      let members : with_formatting f.formatting (member (codes "text") (string f.text) (member (codes "url") (string s) no_members))
      ≡ with_formatting g.formatting (member (codes "text") (string g.text) no_members) = cc in
      absurd (no-member _ _ _ (sym (formatted_tell f g (member (codes "url") (string s) no_members) no_members members).1))
  children_tell (elem ks d m) (elem ls e n) p =
      let same = elements_tell d e m n ks ls p in
      let inside = kids_tell ks ls same.0 in
      λ i. elem (inside i) (same.1 i) (same.2 i)
  children_tell (markup s) (markup t) p = let same : s ≡ t = cc in ap markup same
  children_tell (link f s) (link g t) p =
      let members : with_formatting f.formatting (member (codes "text") (string f.text) (member (codes "url") (string s) no_members))
      ≡ with_formatting g.formatting (member (codes "text") (string g.text) (member (codes "url") (string t) no_members)) = cc in
      let same = formatted_tell f g (member (codes "url") (string s) no_members) (member (codes "url") (string t) no_members) members in
      let urls = urls_tell s t same.1 in
      λ i. link (same.0 i) (urls i)
  children_tell (transparent m f) (transparent n g) p =
      let places : m ≡ n = cc in
      let members : with_formatting f no_members ≡ with_formatting g no_members = cc in
      let formatting = (formattings_tell f g no_members no_members free-none free-none members).0 in
      λ i. transparent (places i) (formatting i)
  children_tell _ _ p = cc

  kids_tell : (ks ls : Kids) → kids_data ks ≡ kids_data ls → ks ≡ ls
  kids_tell no_kids no_kids p = refl
  kids_tell (kid c ks) (kid d ls) p =
      let first : child_data c ≡ child_data d = cc in
      let rest : kids_data ks ≡ kids_data ls = cc in
      let a = children_tell c d first in
      let b = kids_tell ks ls rest in
      λ i. kid (a i) (b i)
  kids_tell _ _ p = cc

trees_tell : Tells children_data
trees_tell cs ds p =
    let same : kids_data (kids_of cs) ≡ kids_data (kids_of ds) = cc in
    kids_of-inj cs ds (kids_tell (kids_of cs) (kids_of ds) same)

fields_tell : (a b : ElemChild) → child_data (child_view a) ≡ child_data (child_view b) → a ≡ b
fields_tell a b p = child_view-inj a b (children_tell (child_view a) (child_view b) p)

bibliography_items_tell : Tells item_data
bibliography_items_tell a b p = let same = parts a.first_field b.first_field p in λ i. record { key = same.0 i; first_field = same.1 i; content = same.2 i }
  where
    parts : (x y : Option ElemChild) → item_data (record { key = a.key; first_field = x; content = a.content }) ≡ item_data (record { key = b.key; first_field = y; content = b.content })
        → (a.key ≡ b.key) × (x ≡ y) × (a.content ≡ b.content)
    parts None None p =
        let keys : a.key ≡ b.key = cc in
        let trees : children_data a.content ≡ children_data b.content = cc in
        (keys, refl, trees_tell a.content b.content trees)
    parts (Some x) (Some y) p =
        let keys : a.key ≡ b.key = cc in
        let first : child_data (child_view x) ≡ child_data (child_view y) = cc in
        let trees : children_data a.content ≡ children_data b.content = cc in
        (keys, ap Some (fields_tell x y first), trees_tell a.content b.content trees)
    parts None (Some y) p = cc
    parts (Some x) None p = cc

citations_tell : Tells citation_data
citations_tell a b p = let same = parts a.note_number b.note_number p in λ i. record { note_number = same.0 i; citation = same.1 i }
  where
    parts : (x y : Option ℕ) → citation_data (record { note_number = x; citation = a.citation }) ≡ citation_data (record { note_number = y; citation = b.citation })
        → (x ≡ y) × (a.citation ≡ b.citation)
    parts None None p =
        let trees : children_data a.citation ≡ children_data b.citation = cc in
        (refl, trees_tell a.citation b.citation trees)
    parts (Some m) (Some n) p =
        let trees : children_data a.citation ≡ children_data b.citation = cc in
        let notes : m ≡ n = cc in
        (ap Some notes, trees_tell a.citation b.citation trees)
    parts None (Some n) p = cc
    parts (Some m) None p = cc

bibliographies_tell : Tells bibliography_data
bibliographies_tell a b p =
    let entry : of_integer a.entry_spacing ≡ of_integer b.entry_spacing = cc in
    let indent : a.hanging_indent ≡ b.hanging_indent = cc in
    let items : items_of (map item_data a.items) ≡ items_of (map item_data b.items) = cc in
    let line : of_integer (a.line_spacing).value ≡ of_integer (b.line_spacing).value = cc in
    let spacing = spacings_equal a.line_spacing b.line_spacing (integers_tell _ _ line) in
    let entries = integers_tell a.entry_spacing b.entry_spacing entry in
    let aligned = aligned_tell a.second_field_align b.second_field_align p in
    let all = items_tell item_data bibliography_items_tell a.items b.items items in
    λ i. record { hanging_indent = indent i; second_field_align = aligned i; line_spacing = spacing i; entry_spacing = entries i; items = all i }
  where
    aligned_tell : (x y : Option SecondFieldAlign)
        → bibliography_data (record { hanging_indent = a.hanging_indent; second_field_align = x; line_spacing = a.line_spacing; entry_spacing = a.entry_spacing; items = a.items })
        ≡ bibliography_data (record { hanging_indent = b.hanging_indent; second_field_align = y; line_spacing = b.line_spacing; entry_spacing = b.entry_spacing; items = b.items })
        → x ≡ y
    aligned_tell None None p = refl
    aligned_tell (Some x) (Some y) p = let names : align_name x ≡ align_name y = cc in ap Some (aligns_tell x y names)
    aligned_tell None (Some y) p = cc
    aligned_tell (Some x) None p = cc

pub answers_tell : Tells answer_data
answers_tell a b p = let same = parts a.bibliography b.bibliography p in λ i. record { bibliography = same.0 i; citations = same.1 i }
  where
    parts : (x y : Option RenderedBibliography) → answer_data (record { bibliography = x; citations = a.citations }) ≡ answer_data (record { bibliography = y; citations = b.citations })
        → (x ≡ y) × (a.citations ≡ b.citations)
    parts None None p =
        let all : items_of (map citation_data a.citations) ≡ items_of (map citation_data b.citations) = cc in
        (refl, items_tell citation_data citations_tell a.citations b.citations all)
    parts (Some x) (Some y) p =
        let all : items_of (map citation_data a.citations) ≡ items_of (map citation_data b.citations) = cc in
        let one : bibliography_data x ≡ bibliography_data y = cc in
        (ap Some (bibliographies_tell x y one), items_tell citation_data citations_tell a.citations b.citations all)
    parts None (Some y) p = cc
    parts (Some x) None p = cc
