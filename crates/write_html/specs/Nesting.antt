-- Which tags stand in HTML, and how they nest.
use Rattle.std.specs.Prelude.{◌≡◌, ℕ, ◌-◌, Bool, List, [], ◌∷◌, ◌++◌, ◌||◌, ◌&&◌, ◌==◌, Option, Some, None, bytes_eq, codes, drop, if◌then◌else◌, length, take, option_and_then}
use Rattle.std.specs.List.{before_first, list_any}
use Rattle.std.specs.Str.{byte}
use Rattle.write_html.specs.Address.{is_address}
use Rattle.write_html.specs.Reading.{Token, Letter, Reference, Tag, InText, tokens, where_after}

-- the opening tags of formatting, and of what is set off
abbrev pub openings : List (List ℕ)
openings = codes "i" ∷ codes "b" ∷ codes "sup" ∷ codes "sub"
    ∷ codes "span style=\"font-style:oblique;\"" ∷ codes "span style=\"font-style:normal;\""
    ∷ codes "span style=\"font-variant:small-caps;\"" ∷ codes "span style=\"font-variant:normal;\""
    ∷ codes "span style=\"font-weight:lighter;\"" ∷ codes "span style=\"font-weight:normal;\""
    ∷ codes "span style=\"text-decoration:underline;\""
    ∷ codes "span style=\"text-decoration:none;\"" ∷ codes "span style=\"baseline\""
    ∷ codes "div class=\"csl-block\"" ∷ codes "div class=\"csl-left-margin\""
    ∷ codes "div class=\"csl-right-inline\"" ∷ codes "div class=\"csl-indent\"" ∷ []

abbrev pub link_to : List ℕ → List ℕ
link_to address = codes "a href=\"" ++ (address ++ codes "\"")

-- what stands between the quotation marks of a link
abbrev pub value_in : List ℕ → List ℕ
value_in tag = take (length tag - 9) (drop 8 tag)

abbrev pub is_link : List ℕ → Bool
is_link tag = bytes_eq tag (link_to (value_in tag)) && is_address (value_in tag)

abbrev pub is_opening : List ℕ → Bool
is_opening tag = list_any (bytes_eq tag) openings || is_link tag

-- the name of an element stands in its opening tag before the first space
abbrev pub name_in : List ℕ → List ℕ
name_in tag = before_first (λ b. b == byte " ") tag

-- which elements are open after a closing tag, the innermost first, where these are open before it;
-- none where it closes another element than the innermost
abbrev pub closed : List (List ℕ) → List ℕ → Option (List (List ℕ))
closed [] tag = None
closed (name ∷ outer) tag = if bytes_eq tag (byte "/" ∷ name) then Some outer else None

-- the same after any tag; none where it is no tag of ours
abbrev pub behind_tag : List (List ℕ) → List ℕ → Option (List (List ℕ))
behind_tag outer tag = if is_opening tag then Some (name_in tag ∷ outer) else closed outer tag

-- the references that stand for characters that HTML reads otherwise
abbrev pub references : List (List ℕ)
references = codes "#34" ∷ codes "#38" ∷ codes "#60" ∷ codes "#62" ∷ []

-- the same after all that was read; none where a tag or a reference is none of ours
abbrev pub opened : List (List ℕ) → List Token → Option (List (List ℕ))
opened elements [] = Some elements
opened elements (Letter b ∷ ts) = opened elements ts
opened elements (Reference r ∷ ts) =
    if list_any (bytes_eq r) references then opened elements ts else None
opened elements (Tag t ∷ ts) =
    option_and_then (λ inside. opened inside ts) (behind_tag elements t)

-- HTML that begins and ends in text: where these elements are open before it, those are behind it
pub record Leads (bytes : List ℕ) (before after : List (List ℕ)) : Type 0 where
  pub ends : where_after InText bytes ≡ InText
  pub nests : opened before (tokens InText bytes) ≡ Some after

abbrev pub Opens : List ℕ → List ℕ → Type 0
Opens bytes name = (outer : List (List ℕ)) → Leads bytes outer (name ∷ outer)

abbrev pub Closes : List ℕ → List ℕ → Type 0
Closes bytes name = (outer : List (List ℕ)) → Leads bytes (name ∷ outer) outer

-- no tag is open before it or behind it, and each tag in it is one of ours: a link has an address
abbrev pub IsHtml : List ℕ → Type 0
IsHtml bytes = Leads bytes [] []
