-- The pieces of blocks, one block further, and the node that holds them.
use Rattle.std.proofs.Common.{◌≡◌, ℕ, List, [], ◌∷◌, ◌++◌, append_assoc, length, take, filter, Bool, true, false, ◌||◌, Option, Some, None, cond, sym, ap, ◌∙◌, refl, if◌then◌else◌}
use Rattle.std.specs.List.{flat_map}
use Rattle.std.proofs.lemmas.List.{append-nil, take_at}
use Rattle.layout_picking.specs.Pieces.{NodeValue, Part, tokens, Token, opening, closing, node_of}
use Rattle.value_sources.specs.declared.taxonomy.NameVariable.{NameVariable}
use Rattle.value_styles.specs.Element.{NameOptions, Look}
use Rattle.layout_picking.specs.declared.notes.Called.{Called}
use Rattle.layout_picking.specs.declared.notes.Notes.{Notes}
use Rattle.layout_picking.specs.Notes.{called_by_both}
use Rattle.layout_picking.specs.Env.{Env}
use Rattle.layout_picking.specs.Options.{applied_options}
use Rattle.layout_picking.specs.NameRules.{Rules, rules_of}
use Rattle.layout_picking.specs.Names.{joint_part, joined_blocks, blocks_parts, author_variable, blocks, stand_in, written_blocks, names_node, noted_forms, noted_stand_in, pick_names}
use Rattle.layout_picking.specs.BlockRun.{preceded, blocks_after}
use Rattle.layout_picking.specs.Picked.{Picked, Held, gives, called_with, added}
use Rattle.layout_picking.proofs.Tokens.{tokens-append}

pub blocks_further : (words : List ℕ) (behind : Bool) (b : List Part) (bs : List (List Part)) (before after : List Token)
    → after ≡ before ++ tokens (preceded (if behind then Some words else None) b)
    → after ++ tokens (blocks_after words (behind || gives b) bs) ≡ before ++ tokens (blocks_after words behind (b ∷ bs))
blocks_further words behind b bs before after e =
    let first = preceded (if behind then Some words else None) b in
    let rest = blocks_after words (behind || gives b) bs in
    ap (λ ts. ts ++ tokens rest) e ∙ append_assoc before (tokens first) (tokens rest) ∙ ap (λ ts. before ++ ts) (sym (tokens-append first rest))

pub given_further : (words : List ℕ) (behind : Bool) (b : List Part) (bs : List (List Part))
    → ((behind || gives b) || gives (blocks_after words (behind || gives b) bs)) ≡ (behind || gives (blocks_after words behind (b ∷ bs)))
given_further words true b bs = refl
given_further words false [] bs = refl
given_further words false (p ∷ ps) bs = refl

behind_joined : (words : List ℕ) (bs : List (List Part)) → blocks_after words true bs ≡ flat_map (λ o. joint_part words ∷ o) (filter gives bs)
behind_joined words [] = refl
behind_joined words ([] ∷ bs) = behind_joined words bs
behind_joined words ((p ∷ ps) ∷ bs) = ap (λ rest. (joint_part words ∷ p ∷ ps) ++ rest) (behind_joined words bs)

-- one after the other they are those that give a part, joined
pub blocks_joined : (words : List ℕ) (bs : List (List Part)) → blocks_after words false bs ≡ joined_blocks words bs
blocks_joined words [] = refl
blocks_joined words ([] ∷ bs) = blocks_joined words bs
blocks_joined words ((p ∷ ps) ∷ bs) = ap (λ rest. (p ∷ ps) ++ rest) (behind_joined words bs)

-- a node that is cut back where nothing stands in it
pub node_closed : (node : NodeValue) (ps : List Part) (given : Bool) (start : ℕ) (old opened filled closed : List Token)
    → given ≡ gives ps → start ≡ length old → opened ≡ old ++ opening node ∷ [] → filled ≡ opened ++ tokens ps
    → closed ≡ cond given (filled ++ closing ∷ []) (take start filled)
    → closed ≡ old ++ tokens (node_of node ps)
node_closed node [] given start old opened filled closed g s o f e =
    e
    ∙ ap (λ b. cond b (filled ++ closing ∷ []) (take start filled)) g
    ∙ ap (λ ts. take start ts) (f ∙ append-nil opened ∙ o)
    ∙ take_at old (opening node ∷ []) start (sym s)
    ∙ sym (append-nil old)
node_closed node (p ∷ ps) given start old opened filled closed g s o f e =
    e
    ∙ ap (λ b. cond b (filled ++ closing ∷ []) (take start filled)) g
    ∙ ap (λ ts. ts ++ closing ∷ []) (f ∙ ap (λ ts. ts ++ tokens (p ∷ ps)) o)
    ∙ append_assoc (old ++ opening node ∷ []) (tokens (p ∷ ps)) (closing ∷ [])
    ∙ append_assoc old (opening node ∷ []) (tokens (p ∷ ps) ++ closing ∷ [])
    ∙ ap (λ ts. old ++ ts) (sym (append-nil (opening node ∷ (tokens (p ∷ ps) ++ closing ∷ []))))

gives-node_of : (node : NodeValue) (ps : List Part) → gives ps ≡ gives (node_of node ps)
gives-node_of node [] = refl
gives-node_of node (p ∷ ps) = refl

-- what an element gives by these rules, blocks and stand-in
abbrev picked_by : Env → Look → Notes → Rules → List NameVariable → Option NameVariable → Picked
picked_by env look n r vs st =
    let ps = node_of (names_node env.answers look vs) (blocks_parts env r n vs) in
    record { parts = ps; called = called_with (gives ps); noted = noted_stand_in (gives ps) st (noted_forms env.answers r vs n) }

-- an element is picked by its own rules, blocks and stand-in
pub names_picked : (env : Env) (variables substitute : List NameVariable) (o : NameOptions) (look : Look) (n : Notes) (old : List Token) (called : Called)
    (r : Rules) (vs : List NameVariable) (st : Option NameVariable) (given : Bool) (closed : List Token) (called_before called_now : Called) (noted_before noted_now : Notes)
    → r ≡ rules_of (applied_options env.options o)
    → vs ≡ written_blocks env.form (author_variable env.answers) (blocks env.answers n variables substitute)
    → st ≡ stand_in env.answers n variables substitute
    → given ≡ gives (blocks_parts env r n vs)
    → closed ≡ old ++ tokens (node_of (names_node env.answers look vs) (blocks_parts env r n vs))
    → called_before ≡ called → called_now ≡ called_by_both called_before (called_with given)
    → noted_before ≡ noted_forms env.answers r vs n → noted_now ≡ noted_stand_in given st noted_before
    → (let h : Held = record { tokens = closed; called = called_now; noted = noted_now } in h) ≡ added (pick_names env variables substitute o look n) (record { tokens = old; called = called; noted = n })
names_picked env variables substitute o look n old called r vs st given closed called_before called_now noted_before noted_now er ev es g t cb cn nb nn =
    let before : Held = record { tokens = old; called = called; noted = n } in
    let is : given ≡ gives (node_of (names_node env.answers look vs) (blocks_parts env r n vs)) = g ∙ gives-node_of (names_node env.answers look vs) (blocks_parts env r n vs) in
    let c : called_now ≡ called_by_both called (called_with (gives (node_of (names_node env.answers look vs) (blocks_parts env r n vs))))
    = cn ∙ ap (λ x. called_by_both x (called_with given)) cb ∙ ap (λ b. called_by_both called (called_with b)) is in
    let m : noted_now ≡ noted_stand_in (gives (node_of (names_node env.answers look vs) (blocks_parts env r n vs))) st (noted_forms env.answers r vs n)
    = nn ∙ ap (λ x. noted_stand_in given st x) nb ∙ ap (λ b. noted_stand_in b st (noted_forms env.answers r vs n)) is in
    (λ i. record { tokens = t i; called = c i; noted = m i })
    ∙ ap (λ x. added (picked_by env look n x vs st) before) er
    ∙ ap (λ x. added (picked_by env look n (rules_of (applied_options env.options o)) x st) before) ev
    ∙ ap (λ x. added (picked_by env look n (rules_of (applied_options env.options o)) (written_blocks env.form (author_variable env.answers) (blocks env.answers n variables substitute)) x) before) es
