use Rattle.ordered_multimap.proofs.Callers.SetLists.{set-lists}
use Rattle.header_store.proofs.answer.change.Goals as goal

pub returns-in_ok-set-in-Set : goal.returns-in_ok-set-in-Set
returns-in_ok-set-in-Set c =
    rw c.in-Set.is (set-lists _ _ _ _ _ _ c.in_ok-set-in-Set.ensures.value c.in_ok-set-in-Set.ensures.ok)
