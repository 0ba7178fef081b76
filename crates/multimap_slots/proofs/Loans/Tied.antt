-- The last value of a name is the list of the last values of other names.
use mathlib.Core.List.{List, [], ◌∷◌}
use base.Fml.{Fml, GName, ffalse, ftrue, fsep, fall, fwand, fres}
use base.Stored.{coded_list}
use types.SemTy.{SemTy}

-- the last values of the names are these
module _ (T : SemTy) where
  abbrev pub ends : List GName → List T.rep → Fml
  ends [] [] = ftrue
  ends [] (w ∷ ws) = ffalse
  ends (γ ∷ γs) [] = ffalse
  ends (γ ∷ γs) (w ∷ ws) = fsep (fres γ (T.coded.code w)) (ends γs ws)

  -- the last value of `δ` is the list of the last values of the names
  abbrev pub tied : GName → List GName → Fml
  tied δ γs =
      fall (List T.rep) (λ ws. fwand (ends γs ws) (fres δ ((coded_list T.coded).code ws)))
