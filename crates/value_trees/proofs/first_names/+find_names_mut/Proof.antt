-- The walk of `find_names_mut`, by recursion on how many nodes the tree has. Assumes `Logic`.
use Rattle.std.proofs.Common.{◌≡◌, ◌<◌, List, [], ◌∷◌, Some, Bool, true, false, option_map, refl, sym, ap, subst, ◌∙◌, MutBor}
use seplogic.Ra.Ura.{Ura}
use base.Fraction.{full_share}
use base.Logic.{ent, sep, emp, id⊢}
use base.Fml.{Fml, Lft, Share, GName, ftrue, flft, fres}
use lib.WfN.{lt-wf_rel}
use mir.Syntax.{named}
use mir.Val.{Val}
use prog.Wp.{WpFn}
use prog.Model.{Model}
use prog.Wired.{Wired}
use sound.WpLaws.{WpFn-mono}
use types.Logic.{Logic, sem}
use types.Tokens.{lft_new, lft_end}
use types.Kit.{‵, raw, ◌⊛◌, some, later, at_ret, ◌$◌, ◌∵◌, !, qed, by, done, move, keep, drop, use0, use1, use2, use3, split, join, fsplit, fjoin, pick, await, rewrite, suffices, frame}
use types.Run.{enter, of_opd, addr, stop, no_more, and_then, returns, first, branches, exec}
use types.ByLocal.{alloc_all, pass_all, free_all, look_at, get, through, sets, lands_as, lands_last, env}
use contract.Monad.{fact, fact_i}
use contract.Running.{Running, MachineTables, tables, tables_of}
use denote.RattleType.{RattleType}
use denote.Builtin.{bool}
use denote.Laws.{Is, shows}
use denote.Ref.{MutRef, mut_vals, mut_Tells}
use denote.Follow.{follows, follows_if, follows_then}
use denote.Lend.{lends_again, comes_back, LentAgain}
use denote.Exit.{no}
use denote.Signature.{plain, mut_ref_to}
use denote.Steps.{nothing, heard, peeks, facts, only}
use denote.Triple.Call.{calls_at, calls_at_last, calls_from_last}
use denote.Triple.Clauses.{Clauses, Lasts, lasts}
use denote.Triple.Statement.{Contract}
use denote.Triple.Cycle.{mutual_elim, measured, at_on}
use denote.Triple.Entry.{on_entry}
use denote.Triple.Spec.{triple_of}
use denote.Triple.Table.{framed}
use denote.Triple.Walked.{Stays, stay_dropped, walk_of, says, ends_at, walked_at, walk_meets_at, Goes-spent_ref}
use Rattle.std.specs.Option.{ghost_name_of}
use Rattle.std.specs.contracts.option.Option as OP
use Rattle.value_trees.specs.ChildView.{child_view, nodes}
use Rattle.value_trees.specs.Child.{Child}
use Rattle.value_trees.specs.Tree.{find_elem, has_names}
use Rattle.value_trees.specs.FirstNames.{put_names}
use Rattle.value_trees.specs.FirstNamesStep.{names_lie_deeper, first_holder, put_holder_child, holder_elem, put_holder_elem}
use Rattle.value_trees.specs.Nested.{child_is_elem, inner, with_children}
use Rattle.value_trees.specs.declared.elem.Elem.{Elem}
use Rattle.value_trees.specs.declared.elem.ElemChild.{ElemChild}
use Rattle.value_trees.proofs.Lent.{true_of, false_of, follows_on, lent_option}
use Rattle.value_trees.proofs.FirstNamesSteps.{holder-without_names, without_names-is_elem, names_down, nodes_fall, names_here, put_here, step_put, step_same}
use Rattle.value_trees.specs.contracts.elem.ElemChildren.{the_row as R}
use Rattle.value_trees.specs.contracts.elem.ElemChild.{the_row as C'}
use Rattle.value_trees.specs.contracts.elem.Elem.{the_row as F'}
use Rattle.value_trees.specs.contracts.first_names.find_names_mut as f
use Rattle.value_trees.specs.contracts.first_names.find_names_mut.Key.{name as #self}
use Rattle.value_trees.specs.contracts.first_names.names_lie_deeper as g₁
use Rattle.value_trees.specs.contracts.first_names.holder_mut as g₂
use Rattle.value_trees.specs.contracts.elem.ElemChild.children_mut as g₃
use Rattle.value_trees.specs.contracts.first_names.holder_elem_mut as g₄
use Rattle.value_trees.proofs.first_names.names_lie_deeper.Met as m₁
use Rattle.value_trees.proofs.first_names.holder_mut.Met as m₂
use Rattle.value_trees.proofs.elem.ElemChild.children_mut.Met as m₃
use Rattle.value_trees.proofs.first_names.holder_elem_mut.Met as m₄
use Rattle.value_trees.proofs.first_names.+find_names_mut as cycle
use Rattle.value_trees.proofs.first_names.+find_names_mut.Code as code
use Rattle.value_trees.proofs.first_names.+find_names_mut.Code.+find_names_mut as Mir

abbrev stayed : Stays f.ended.signature.params f.ended.kept
stayed = (stay_dropped (mut_ref_to (0 ∷ []) tt (plain (λ _. R))) no, tt)

module _ {M : Type 1} {𝓤 : Ura M} (𝓛 : Logic 𝓤) (𝓜 : Model 𝓤 𝓛.H) (𝓡 : Running 𝓤 𝓛.H 𝓜) (wired : Wired 𝓡.env code.code) where
  open 𝓛 use {H}

  abbrev 𝓣 : MachineTables 𝓤 H 𝓜
  𝓣 = tables 𝓤 H 𝓜 𝓡 𝓡.env

  abbrev c : Clauses 𝓤 f.ended
  c = f.clauses 𝓛 𝓜.mem 𝓡.returns

  abbrev G : Contract 𝓤
  G = triple_of 𝓛 f.signature (f.spec 𝓛 𝓜.mem 𝓡.returns)

  abbrev G₁ : Contract 𝓤
  G₁ = triple_of 𝓛 g₁.signature (g₁.spec 𝓛 𝓜.mem 𝓡.returns)

  abbrev G₂ : Contract 𝓤
  G₂ = triple_of 𝓛 g₂.signature (g₂.spec 𝓛 𝓜.mem 𝓡.returns)

  abbrev G₃ : Contract 𝓤
  G₃ = triple_of 𝓛 g₃.signature (g₃.spec 𝓛 𝓜.mem 𝓡.returns)

  abbrev G₄ : Contract 𝓤
  G₄ = triple_of 𝓛 g₄.signature (g₄.spec 𝓛 𝓜.mem 𝓡.returns)

  abbrev W : Contract 𝓤
  W = walk_of 𝓛 f.ended stayed c

  module _ (κ : Lft) (q : Share) where
    abbrev at : MutBor (List Child) → G.Ghost
    at r = (((κ, tt), (q, tt), tt, (r, tt), (mut_vals r, tt)), tt)

    abbrev child_at : MutBor ElemChild → G₃.Ghost
    child_at x = (((κ, tt), (q, tt), tt, (x, tt), (mut_vals x, tt)), tt)

    abbrev Of : Lft → MutBor (List Child) → List Val → Fml
    Of κ' x us = (MutRef (named 0) κ' R).own_val x us

    abbrev Opt : RattleType
    Opt = OP.the_row (MutRef (named 0) κ F')

    -- the return
    exits : (r : MutBor (List Child)) (x : Opt.Denot) (v : Val) → option_map (λ w. w.now) x ≡ find_elem has_names r.now
        → ent 𝓤 (sep 𝓤 (sem 𝓛 (Opt.own_val x (v ∷ []))) (sep 𝓤 (sem 𝓛 (flft κ q)) (sem 𝓛 (follows_if R F' r.ghost_name (ghost_name_of x) (put_names r.now) r.now)))) (W.post (at r) v)
    exits r x v e =
        qed 𝓛 (‵ (Opt.own_val x (v ∷ [])) ∷ ‵ (flft κ q) ∷ ‵ (follows_if R F' r.ghost_name (ghost_name_of x) (put_names r.now) r.now) ∷ []) ∵
        suffices ! _ (ends_at 𝓛 f.ended stayed c (at r) v x (tt, tt) (tt, tt)) $
        nothing ! $ nothing ! $ fjoin ! $ join ! $ nothing ! $ move ! (2 ∷ 0 ∷ []) $ join ! $ join ! $ frame ! $ says ! e $ done !

    walk : (r : MutBor (List Child)) → ((k : MutBor (List Child)) → nodes k.now < nodes r.now → ent 𝓤 (G.pre (at k)) (𝓣.C #self (mut_vals k) (G.post (at k))))
        → ent 𝓤 (sep 𝓤 (on_entry 𝓛 f.signature (κ, tt) (q, tt) (r, tt) (mut_vals r, tt)) ((c (κ, tt) (r, tt)).requires tt)) (WpFn 𝓤 H 𝓣.C 𝓣.Λ code.find_names_mut-function (mut_vals r) (W.post (at r)))
    walk r known =
        let b = r.ref_ptr.0 in let o = r.ref_ptr.1 in let vs = mut_vals r in
        let fm = framed 𝓤 H 𝓜 𝓣 in
        let Ref = λ (κ' : Lft) (x : MutBor (List Child)). (MutRef (named 0) κ' R).own_val x vs in
        qed 𝓛 (((‵ (flft κ q) ⊛ ‵ ftrue) ⊛ ‵ (Ref κ r) ⊛ ‵ ftrue) ∷ ‵ ftrue ∷ []) ∵
        split ! $ split ! $ move ! (2 ∷ []) $ split ! $ keep ! (0 ∷ 2 ∷ []) $
        enter ! _ _ _ _ _ $ alloc_all ! (λ l. pass_all ! refl ((tt, tt), tt) $
        -- [r; the token of κ]
        sets ! (addr ! (through ! refl (stop !))) refl (tt, tt) $
        lft_new ! tt (λ α. move ! (1 ∷ 2 ∷ []) $
        use2 𝓛 (later (some (λ (δ : GName). ‵ (Ref (α ∷ []) (record r { ghost_name = δ })) ⊛ ‵ (LentAgain R κ (α ∷ []) q r.ghost_name b o δ r.now))))
        (lends_again 𝓛 R (named 0) κ (α ∷ []) q r.ghost_name b o (named 0) r.now) $ await ! tt $ pick ! (λ δ. split ! $
        -- [the loan; what the lender keeps; the token of α]
        let z₁ : G₁.Ghost = (((α ∷ [], tt), (full_share, tt), tt, (record r { ghost_name = δ }, tt), (vs, tt)), tt) in
        nothing ! $ move ! (1 ∷ 0 ∷ []) $ join ! $ nothing ! $ move ! (3 ∷ 0 ∷ []) $ join ! $ join ! $
        nothing ! $ move ! (1 ∷ 0 ∷ []) $ use2 𝓛 (raw (G₁.pre z₁)) (id⊢ 𝓤 _) $
        calls_at ! fm G₁ (m₁.met 𝓤 𝓛 𝓜 𝓡 (code.calls-value_trees::first_names::names_lie_deeper 𝓡.env wired)) z₁ (and_then ! (get ! refl) (no_more !)) (λ v.
        use1 𝓛 (later (some (λ (u : Bool). ((‵ (flft (α ∷ []) full_share) ⊛ ‵ ftrue) ⊛ ‵ (bool.own_val u (v ∷ []))) ⊛
        some (λ (ws : List Child × Unit {0}). ‵ (lasts g₁.ended z₁.0.0 z₁.0.3 ws) ⊛ raw (fact 𝓤 ((ws.0 ≡ r.now) × (u ≡ names_lie_deeper r.now))))))) (id⊢ 𝓤 _) $
        await ! tt $ pick ! (λ u. split ! $ split ! $ split ! $ lft_end ! tt $ move ! (2 ∷ []) $ facts ! bool (Is bool) (shows 𝓛 bool) u (v ∷ []) (λ is.
        lands_as ! (ap only is) refl (tt, tt) $
        move ! (2 ∷ []) $ pick ! (λ ws. split ! $ move ! (1 ∷ []) $ heard ! _ (λ said. fsplit ! $ fsplit ! $
        rewrite ! 0 (λ (m : List Child). ‵ (fres δ (R.coded.code m))) (said.0) refl $
        -- [the loan's last value; its borrow; nothing; α is over; nothing; what the lender keeps]
        move ! (3 ∷ 5 ∷ 0 ∷ []) $ use3 𝓛 (later (‵ (Ref κ r) ⊛ ‵ (flft κ q)))
        (comes_back 𝓛 R (named 0) κ (α ∷ []) q r.ghost_name b o δ r.now r.now) $ await ! tt $ split ! $
        -- [r; the token of κ]
        first ! $ branches ! (get ! refl)
        (λ t.
        let big : names_lie_deeper r.now ≡ true = sym said.1 ∙ true_of u t in
        let z₂ : G₂.Ghost = (((κ, tt), (q, tt), tt, (r, tt), (vs, tt)), tt) in
        sets ! (addr ! (through ! refl (stop !))) refl (tt, tt) $
        nothing ! $ move ! (1 ∷ 0 ∷ []) $ join ! $ nothing ! $ move ! (2 ∷ 0 ∷ []) $ join ! $ join ! $
        use0 𝓛 (raw (fact 𝓤 (names_lie_deeper r.now ≡ true))) (fact_i 𝓤 _ (emp 𝓤) big) $ move ! (1 ∷ 0 ∷ []) $ use2 𝓛 (raw (G₂.pre z₂)) (id⊢ 𝓤 _) $
        calls_at ! fm G₂ (m₂.met 𝓤 𝓛 𝓜 𝓡 (code.calls-value_trees::first_names::holder_mut 𝓡.env wired)) z₂ (and_then ! (get ! refl) (no_more !)) (λ v₂.
        use1 𝓛 (later (some (λ (x : MutBor ElemChild). ((‵ (flft κ q) ⊛ ‵ ftrue) ⊛ ‵ ((MutRef (named 0) κ C').own_val x (v₂ ∷ []))) ⊛
        some (λ (ws : Lasts g₂.ended z₂.0.0 z₂.0.3). ‵ (lasts g₂.ended z₂.0.0 z₂.0.3 ws) ⊛ ‵ (follows R C' r.ghost_name x.ghost_name (put_holder_child r.now)) ⊛ raw (fact 𝓤 (Some (child_view x.now) ≡ first_holder r.now)))))) (id⊢ 𝓤 _) $
        await ! tt $ pick ! (λ x. split ! $ split ! $ split ! $ move ! (3 ∷ []) $ pick ! (λ ws₂. split ! $ drop ! $ split ! $ move ! (1 ∷ []) $ heard ! _ (λ s₂.
        -- [what follows; the token; nothing; x]
        let on = holder-without_names r.now (child_view x.now) s₂ big in let is_elem = without_names-is_elem (child_view x.now) on in
        move ! (3 ∷ []) $ peeks ! (MutRef (named 0) κ C') (Is (MutRef (named 0) κ C')) (shows 𝓛 (MutRef (named 0) κ C')) x (v₂ ∷ []) (λ is₂.
        lands_as ! (ap only (mut_Tells (named 0) κ C' x (v₂ ∷ []) is₂)) refl (tt, tt) $
        rewrite ! 0 (λ (us : List Val). ‵ ((MutRef (named 0) κ C').own_val x us)) (mut_Tells (named 0) κ C' x (v₂ ∷ []) is₂) refl $
        let z₃ : G₃.Ghost = child_at x in
        nothing ! $ move ! (1 ∷ 0 ∷ []) $ join ! $ nothing ! $ move ! (3 ∷ 0 ∷ []) $ join ! $ join ! $
        use0 𝓛 (raw (fact 𝓤 (child_is_elem (child_view x.now) ≡ true))) (fact_i 𝓤 _ (emp 𝓤) is_elem) $ move ! (1 ∷ 0 ∷ []) $ use2 𝓛 (raw (G₃.pre z₃)) (id⊢ 𝓤 _) $
        calls_at ! fm G₃ (m₃.met 𝓤 𝓛 𝓜 𝓡 (code.calls-value_trees::elem::ElemChild::children_mut 𝓡.env wired)) z₃ (and_then ! (get ! refl) (no_more !)) (λ v₃.
        use1 𝓛 (later (some (λ (y : MutBor (List Child)). ((‵ (flft κ q) ⊛ ‵ ftrue) ⊛ ‵ (Of κ y (v₃ ∷ []))) ⊛
        some (λ (ws : Lasts g₃.ended z₃.0.0 z₃.0.3). ‵ (lasts g₃.ended z₃.0.0 z₃.0.3 ws) ⊛ ‵ (follows C' R x.ghost_name y.ghost_name (with_children x.now)) ⊛ raw (fact 𝓤 (y.now ≡ inner (child_view x.now))))))) (id⊢ 𝓤 _) $
        await ! tt $ pick ! (λ y. split ! $ split ! $ split ! $ move ! (3 ∷ []) $ pick ! (λ ws₃. split ! $ drop ! $ split ! $ move ! (1 ∷ []) $ heard ! _ (λ s₃.
        -- [what follows x; the token; nothing; y; what follows r]
        move ! (4 ∷ 0 ∷ []) $ use2 𝓛 (‵ (follows R R r.ghost_name y.ghost_name (λ w. put_holder_child r.now (with_children x.now w)))) (follows_then 𝓛 R C' R (put_holder_child r.now) (with_children x.now) r.ghost_name x.ghost_name y.ghost_name) $
        move ! (3 ∷ []) $ peeks ! (MutRef (named 0) κ R) (Is (MutRef (named 0) κ R)) (shows 𝓛 (MutRef (named 0) κ R)) y (v₃ ∷ []) (λ is₃.
        lands_as ! (ap only (mut_Tells (named 0) κ R y (v₃ ∷ []) is₃)) refl (tt, tt) $
        rewrite ! 0 (λ (us : List Val). ‵ (Of κ y us)) (mut_Tells (named 0) κ R y (v₃ ∷ []) is₃) refl $
        nothing ! $ move ! (1 ∷ 0 ∷ []) $ join ! $ nothing ! $ move ! (3 ∷ 0 ∷ []) $ join ! $ join ! $
        nothing ! $ move ! (1 ∷ 0 ∷ []) $ use2 𝓛 (raw (G.pre (at y))) (id⊢ 𝓤 _) $
        calls_from_last ! fm (raw (G.pre (at y))) (mut_vals y) (G.post (at y)) (known y (subst (λ ks. nodes ks < nodes r.now) (sym s₃) (nodes_fall r.now (child_view x.now) s₂ is_elem))) (and_then ! (get ! refl) (no_more !)) (λ v₄.
        use1 𝓛 (later (some (λ (m : Opt.Denot). ((‵ (flft κ q) ⊛ ‵ ftrue) ⊛ ‵ (Opt.own_val m (v₄ ∷ []))) ⊛
        some (λ (ws : Lasts f.ended (κ, tt) (y, tt)). ‵ (lasts f.ended (κ, tt) (y, tt) ws) ⊛ ‵ (follows_if R F' y.ghost_name (ghost_name_of m) (put_names y.now) y.now) ⊛ raw (fact 𝓤 (option_map (λ w. w.now) m ≡ find_elem has_names y.now)))))) (id⊢ 𝓤 _) $
        await ! tt $ pick ! (λ m. split ! $ split ! $ split ! $ move ! (3 ∷ []) $ pick ! (λ ws₄. split ! $ drop ! $ split ! $ move ! (1 ∷ []) $ heard ! _ (λ s₄.
        -- [what follows y; the token; nothing; the result; what follows r]
        move ! (4 ∷ 0 ∷ []) $ use2 𝓛 (‵ (follows_if R F' r.ghost_name (ghost_name_of m) (λ w. put_holder_child r.now (with_children x.now (put_names y.now w))) (put_holder_child r.now (with_children x.now y.now))))
        (follows_on 𝓛 R R F' (λ w. put_holder_child r.now (with_children x.now w)) (put_names y.now) y.now r.ghost_name y.ghost_name (ghost_name_of m)) $
        rewrite ! 0 (λ (p : (Elem → List Child) × List Child). ‵ (follows_if R F' r.ghost_name (ghost_name_of m) p.0 p.1)) (λ i. ((λ w. step_put r.now y.now x.now w s₂ s₃ on i), step_same r.now y.now x.now s₂ s₃ i)) refl $
        move ! (3 ∷ []) $ peeks ! Opt (Is Opt) (shows 𝓛 Opt) m (v₄ ∷ []) (λ is₄.
        let ok = ((lent_option 𝓛 κ F').typed m (v₄ ∷ []) is₄).0 in
        lands_last ! refl ok $ exec ! 𝓣.C 𝓣.Λ (env Mir.locals l) Mir.t-4 (at_ret _ (W.post (at r))) $
        sets ! (of_opd ! (get ! refl)) refl ok $ returns ! (look_at ! 0 refl) $ free_all ! refl $ keep ! (0 ∷ 2 ∷ 1 ∷ []) $
        by ! (exits r m v₄ (s₄ ∙ ap (find_elem has_names) s₃ ∙ names_down r.now (child_view x.now) s₂ on))))))))))))))))))
        (λ t.
        let small : names_lie_deeper r.now ≡ false = sym said.1 ∙ false_of u t in
        let z₄ : G₄.Ghost = (((κ, tt), (q, tt), tt, (r, tt), (vs, tt)), tt) in
        sets ! (addr ! (through ! refl (stop !))) refl (tt, tt) $
        nothing ! $ move ! (1 ∷ 0 ∷ []) $ join ! $ nothing ! $ move ! (2 ∷ 0 ∷ []) $ join ! $ join ! $
        nothing ! $ move ! (1 ∷ 0 ∷ []) $ use2 𝓛 (raw (G₄.pre z₄)) (id⊢ 𝓤 _) $
        calls_at_last ! fm G₄ (m₄.met 𝓤 𝓛 𝓜 𝓡 (code.calls-value_trees::first_names::holder_elem_mut 𝓡.env wired)) z₄ (and_then ! (get ! refl) (no_more !)) (λ v₄.
        use1 𝓛 (later (some (λ (m : Opt.Denot). ((‵ (flft κ q) ⊛ ‵ ftrue) ⊛ ‵ (Opt.own_val m (v₄ ∷ []))) ⊛
        some (λ (ws : Lasts g₄.ended z₄.0.0 z₄.0.3). ‵ (lasts g₄.ended z₄.0.0 z₄.0.3 ws) ⊛ ‵ (follows_if R F' r.ghost_name (ghost_name_of m) (put_holder_elem r.now) r.now) ⊛ raw (fact 𝓤 (option_map (λ w. w.now) m ≡ holder_elem r.now)))))) (id⊢ 𝓤 _) $
        await ! tt $ pick ! (λ m. split ! $ split ! $ split ! $ move ! (3 ∷ []) $ pick ! (λ ws₄. split ! $ drop ! $ split ! $ move ! (1 ∷ []) $ heard ! _ (λ s₄.
        rewrite ! 0 (λ (p : Elem → List Child). ‵ (follows_if R F' r.ghost_name (ghost_name_of m) p r.now)) (λ i w. put_here r.now w small i) refl $
        move ! (3 ∷ []) $ peeks ! Opt (Is Opt) (shows 𝓛 Opt) m (v₄ ∷ []) (λ is₄.
        let ok = ((lent_option 𝓛 κ F').typed m (v₄ ∷ []) is₄).0 in
        lands_last ! refl ok $ exec ! 𝓣.C 𝓣.Λ (env Mir.locals l) Mir.t-4 (at_ret _ (W.post (at r))) $
        sets ! (of_opd ! (get ! refl)) refl ok $ returns ! (look_at ! 0 refl) $ free_all ! refl $ keep ! (0 ∷ 2 ∷ 1 ∷ []) $
        by ! (exits r m v₄ (s₄ ∙ names_here r.now small))))))))))))))))

pub +find_names_mut_spec : {M : Type 1} → cycle.statement M
unfolding tables_of
+find_names_mut_spec 𝓤 𝓛 𝓜 𝓡 wired =
    let H = 𝓛.H in let 𝓣 = tables 𝓤 H 𝓜 𝓡 𝓡.env in let c = f.clauses 𝓛 𝓜.mem 𝓡.returns in let fn = code.find_names_mut-function in
    mutual_elim 𝓛 (cycle.functions 𝓛 𝓜.mem 𝓡.run 𝓡.returns 𝓡.env) ◌<◌ lt-wf_rel.wf
    (measured 𝓛 (record { signature = f.signature; run = 𝓡.run (𝓡.env #self); spec = f.spec 𝓛 𝓜.mem 𝓡.returns }) (λ y. nodes y.0.3.0.now)) (λ t smaller.
    at_on 𝓛 f.signature (f.spec 𝓛 𝓜.mem 𝓡.returns) (WpFn 𝓤 H 𝓣.C 𝓣.Λ fn) (𝓣.C #self) (code.find_names_mut-unfolded 𝓤 H 𝓜 𝓡 wired) (λ y. nodes y.0.3.0.now) t (λ y e.
    walk_meets_at 𝓛 f.ended stayed (Goes-spent_ref 𝓛 1 (0 ∷ []) tt (plain (λ _. R)), tt) c (WpFn 𝓤 H 𝓣.C 𝓣.Λ fn) (WpFn-mono 𝓤 H 𝓛.laws (tables_of 𝓤 H 𝓜 𝓣) fn) y
    (walked_at 𝓛 f.ended stayed c (WpFn 𝓤 H 𝓣.C 𝓣.Λ fn) y (mut_vals, tt) (mut_Tells (named 0) y.0.0.0 R, tt)
    (λ are. walk 𝓛 𝓜 𝓡 wired y.0.0.0 y.0.1.0 y.0.3.0 (λ k lt. smaller (nodes k.now) (subst (λ s. nodes k.now < s) e lt) (at 𝓛 𝓜 𝓡 wired y.0.0.0 y.0.1.0 k) refl)))))
