-- What a pointer to a session owns.
use base.Fml.{Fml, ftrue, fex}
use denote.RattleType.{RattleType}
use denote.RawPtr.{Ptr, block_ptr, null_ptr}
use Rattle.std.specs.declared.alloc.Global.{Global}
use Rattle.std.specs.contracts.impls.GlobalAllocator.TheImpl.{ghosts}
use Rattle.std_alloc.specs.Box.Ownership.{box_owns}

-- a value at p, with the right to free its block
abbrev pub boxed : (R : RattleType) → Ptr → Fml
boxed R p = fex (Global × R.Denot) (λ s. box_owns (ghosts.dealloc_token s.0) R p s.1)

-- the same, or nothing at null
abbrev pub holds : (R : RattleType) → Ptr → Fml
holds R null_ptr = ftrue
holds R (block_ptr b o) = boxed R (block_ptr b o)
