-- The machine values of a handle. Assumes `Logic`.
use Rattle.std.proofs.Common.{◌≡◌, ℕ, List, [], ◌∷◌, ◌++◌, refl, subst}
use seplogic.Ra.Ura.{Ura}
use mir.Val.{Val, vstruct, of_list}
use types.Logic.{Logic, sem}
use mir.Raw.{raw as bare}
use base.Fraction.{full_share}
use base.Logic.{ent, guard, via, snd∗, guard_i}
use contract.Monad.{fact_use}
use types.Kit.{Item, Goal, Seq, Step, step, ‵, given, ◌$◌, drop, fsplit, fjoin, fpick, fpack, feq_i, feq_l, use1, learn}
use denote.Memory.{lone}
use denote.RattleType.{Valss}
use denote.Builtin.{RawPtr}
use denote.RawPtr.{Ptr, block_ptr, null_ptr, ptr_val, lies_at, Testable}
use denote.Steps.{nothing}
use denote.Struct.Struct.{within}
use denote.Struct.Owning.{shape}
use Rattle.std.specs.declared.alloc.Global.{Global}
use Rattle.std.specs.contracts.impls.GlobalAllocator.TheImpl.{ghosts}
use Rattle.std.proofs.GlobalToken.{dealloc_token-Testable}
use Rattle.std_alloc.specs.Box.Ownership.{box_owns}
use Rattle.session_handle.specs.Handle.{holds}
use Rattle.session_handle.specs.contracts.held.HeldSession as held
use Rattle.session_handle.specs.contracts.handle.SessionHandle as handle

module _ {M : Type 1} {𝓤 : Ura M} {𝓛 : Logic 𝓤} {K : Type 0} {Γ : List (Item 𝓤)} {G : Goal 𝓤 𝓛.H} where
  pub handle_out : K → (p : Ptr) (vs : List Val)
      → (vs ≡ vstruct (of_list (ptr_val p ∷ [])) ∷ [] → Seq K 𝓛 (‵ (holds held.the_row p) ∷ Γ) G)
      → Seq K 𝓛 (‵ (handle.the_row.own_val (record { at = p }) vs) ∷ Γ) G
  handle_out t p vs k =
      fsplit t $ fpick t (λ vss. fsplit t $ feq_l t (λ ev. fsplit t $ feq_l t (λ ep. drop t $ k
      (subst (λ (ps : List Val). vs ≡ vstruct (of_list (ps ++ [])) ∷ []) ep ev))))

  pub handle_in : K → (p : Ptr)
      → Step K 𝓛 (‵ (handle.the_row.own_val (record { at = p }) (vstruct (of_list (ptr_val p ∷ [])) ∷ [])) ∷ Γ) G (‵ (holds held.the_row p) ∷ Γ) G
  handle_in t p = step (λ s. let v : Val = vstruct (of_list (ptr_val p ∷ [])) in
      nothing t $ feq_i t (List Val) (ptr_val p ∷ []) (ptr_val p ∷ []) refl $ fjoin t $ feq_i t (List Val) (v ∷ []) (v ∷ []) refl $ fjoin t $
      fpack t (Valss (RawPtr ∷ [])) (within (shape handle.the_type) (p, tt) (v ∷ [])) (ptr_val p ∷ [], tt) $ fjoin t $ s)

-- the start of a box may be compared with null
module _ {M : Type 1} {𝓤 : Ura M} (𝓛 : Logic 𝓤) where
  tested : (a : Global) (p : Ptr) (x : held.the_row.Denot)
      → ent 𝓤 (sem 𝓛 (box_owns (ghosts.dealloc_token a) held.the_row p x)) (guard 𝓤 (Testable p) (sem 𝓛 (box_owns (ghosts.dealloc_token a) held.the_row p x)))
  tested a p x = let B = sem 𝓛 (box_owns (ghosts.dealloc_token a) held.the_row p x) in
      fact_use 𝓤 (Testable p) (via 𝓤 _ (snd∗ 𝓤 (sem 𝓛 (lies_at held.the_row full_share p x)) (sem 𝓛 (ghosts.dealloc_token a (bare (lone held.the_row.mir)) p)))
      (dealloc_token-Testable 𝓛 a (bare (lone held.the_row.mir)) p)) (guard_i 𝓤 (Testable p) B)

-- a pointer to a handle is null, or the start of a box
module _ {M : Type 1} {𝓤 : Ura M} {𝓛 : Logic 𝓤} {K : Type 0} {Γ : List (Item 𝓤)} {G : Goal 𝓤 𝓛.H} where
  pub either_held : K → (p : Ptr) → (p ≡ null_ptr → Seq K 𝓛 Γ G)
      → ((b o : ℕ) (a : Global) (x : held.the_row.Denot) → p ≡ block_ptr b o → Testable (block_ptr b o)
      → Seq K 𝓛 (‵ (box_owns (ghosts.dealloc_token a) held.the_row (block_ptr b o) x) ∷ Γ) G)
      → Seq K 𝓛 (‵ (holds held.the_row p) ∷ Γ) G
  either_held t null_ptr empty full = drop t $ empty refl
  either_held t (block_ptr b o) empty full = let p = block_ptr b o in
      fpick t (λ s. use1 𝓛 (given (Testable p) (‵ (box_owns (ghosts.dealloc_token s.0) held.the_row p s.1))) (tested 𝓛 s.0 p s.1) $ learn t (λ e. full b o s.0 s.1 refl e))
