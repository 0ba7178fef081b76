-- How far a pass over a key's values has come that writes them.
use Rattle.std.specs.Prelude.{◌≡◌, ℕ, Bool, List, ◌++◌, Option}
use Rattle.std.specs.Borrow.{MutBor}
use Rattle.std.specs.Fn.{Mut}
use Rattle.std.specs.Ordering.{nat_cmp}
use Rattle.std.specs.FinMap.{FinMap}
use Rattle.multimap_slots.specs.Lists.{first_of}
use Rattle.multimap_slots.specs.Slots.{Slots, link_at}
use Rattle.multimap_walks.specs.declared.links.KeyLink.{KeyLink}
use Rattle.multimap_walks.specs.declared.links.ValueLink.{ValueLink}
use Rattle.multimap_walks.specs.Chained.{chain_of, pairs_of, positions_at, values_at}
use Rattle.ordered_multimap.specs.Agrees.{Agrees}
use Rattle.ordered_multimap.specs.Updates.{CallableOnEach, RewritesEach, with_values_at}
use Rattle.ordered_multimap.specs.Private.Update.{RewritesAt}

module _ {F V : Type 0} (g : Mut F (MutBor V × Unit {0}) (Unit {0} × (MutBor V × Unit {0})))
    {K : Type 0} (keys : Slots K KeyLink) (old : Slots V ValueLink) (key : ℕ) where
  -- the values before this place are written, and those from it on are still to be
  pub record IsRewriting (eq : K → K → Bool) (rows : FinMap nat_cmp ℕ)
      (values : Slots V ValueLink) (first f : F) (following : Option ℕ) : Type 0 where
    pub done : List ℕ
    pub rest : List ℕ
    pub parts : chain_of old key ≡ done ++ rest
    pub following_is : following ≡ first_of rest
    pub order : values.order ≡ old.order
    pub links : (place : ℕ) → link_at values place ≡ link_at old place
    pub agrees : (hash : K → ℕ) → Agrees eq hash keys rows old → Agrees eq hash keys rows values
    pub callable : CallableOnEach g f (values_at values rest)
    pub goes_on : (later : List V) (last : F)
        → RewritesEach g f (values_at values rest) later last
        → RewritesAt g keys old key first
        (with_values_at (pairs_of keys values) (positions_at old rest) later) last
