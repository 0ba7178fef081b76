-- The drop of an `EntryValuesMut` holds the walk whole. Assumes `Logic`.
-- Its body calls nothing and returns, so `drops` proves it.
-- It gives back that the loans of the values that were not given end.
use mathlib.Core.Path.{refl}
use Rattle.multimap_walks.proofs.Dropped.{drops, has_cells, nothing_left}
use Rattle.multimap_walks.specs.contracts.writing.chain.EntryValuesMut as S
use Rattle.multimap_walks.specs.contracts.writing.chain.EntryValuesMut.drop as F
use Rattle.multimap_walks.proofs.writing.chain.EntryValuesMut.TheLaws.{the_row_laws as laws}
use Rattle.multimap_walks.proofs.writing.chain.EntryValuesMut.drop.Statement.{statement}
use Rattle.multimap_walks.proofs.writing.chain.EntryValuesMut.drop.Code as code

pub drop_spec : {M : Type 1} → statement M
drop_spec 𝓤 𝓛 𝓜 𝓡 wired X Y Z W LX LY LZ LW ga da gf db de df dg dh m₁ m₂ m₃ m₄ m₅ m₆ =
    drops 𝓛 𝓜 𝓡 X Y Z W LX LY LZ LW ga gf _ S.the_row laws (λ κs x f vs ok. nothing_left 𝓛) (F.clauses X Y Z W ga da gf db de df dg dh 𝓛 𝓜.mem 𝓡.returns)
    (λ κs d. d.values) (λ κs d gh e. refl) (λ κs d v. has_cells _ _ _ _ _ _ _ _ _ _ _ _ refl) _ _ _ (λ κs. refl)
    (code.unfolded 𝓤 𝓛.H 𝓜 𝓡 wired (X, (Y, (Z, (W, tt)))) da db de df dg dh)
