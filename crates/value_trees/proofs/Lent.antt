-- What the walks of the calls that lend a place deep in a tree share. Assumes `Logic`.
use Rattle.std.proofs.Common.{◌≡◌, Bool, true, false, not, refl}
use mathlib.Core.Option.{Option as Maybe, none, some as just}
use seplogic.Ra.Ura.{Ura}
use base.Logic.{ent, sep}
use base.Fml.{Lft, GName}
use lib.Dec.{T}
use mir.Syntax.{named}
use types.Logic.{Logic, sem}
use denote.RattleType.{RattleType}
use denote.Laws.{Lawful}
use denote.Ref.{MutRef, mut_Lawful}
use denote.Follow.{follows, follows_if, follows_by, followed, follows_then}
use denote.Enum.Declared.{shape}
use denote.Enum.Enum.{Enum, Enum-Lawful}
use denote.Struct.Recorded.{recorded_lawful}
use Rattle.std.specs.contracts.option.Option as option

-- the arms of a condition
pub true_of : (u : Bool) → T u → u ≡ true
true_of true t = refl
true_of false t = absurd t

pub false_of : (u : Bool) → T (not u) → u ≡ false
false_of true t = absurd t
false_of false t = refl

module _ {M : Type 1} {𝓤 : Ura M} (𝓛 : Logic 𝓤) where
  -- a place in a part, if there is one
  pub follows_on : (A B D : RattleType) (F : B.Denot → A.Denot) (G : D.Denot → B.Denot) (x : B.Denot) (γ γ' : GName) (m : Maybe GName)
      → ent 𝓤 (sep 𝓤 (sem 𝓛 (follows A B γ γ' F)) (sem 𝓛 (follows_if B D γ' m G x))) (sem 𝓛 (follows_if A D γ m (λ w. F (G w)) (F x)))
  unfolding follows_by
  follows_on A B D F G x γ γ' none = followed 𝓛 A B F γ γ' x
  follows_on A B D F G x γ γ' (just γ'') = follows_then 𝓛 A B D F G γ γ' γ''

  -- an option of a lent place is of its type
  pub lent_option : (κ : Lft) (R : RattleType) → Lawful 𝓛 (option.the_row (MutRef (named 0) κ R))
  lent_option κ R =
      let X = MutRef (named 0) κ R in
      recorded_lawful (Enum (shape (option.the_type X))) (option.the_type X).D (option.the_type X).to (option.the_type X).to_one 𝓛
      (Enum-Lawful 𝓛 (shape (option.the_type X)) tt (tt, ((mut_Lawful 𝓛 (named 0) κ R, tt), tt)))
