-- Headers are read one after the other.
use Rattle.std.proofs.Common.{◌≡◌, ℕ, true, false, List, [], ◌∷◌, refl, subst}
use Rattle.ordered_multimap.specs.Changes.{appended}
use Rattle.ordered_multimap.specs.Lists.{Lists}
use Rattle.header_store.specs.declared.field.Field.{Field}
use Rattle.header_store.specs.declared.name.Name.{Name}
use Rattle.header_store.specs.Changed.{same_name}
use Rattle.header_store.specs.Message.{IsHeader, IsReadAs, begins_end, behind_header, header_in}

-- no header is left
pub none_left : (text : List ℕ) (m : Lists Name Field) → begins_end text ≡ true → IsReadAs text m text m
none_left text m end = ([], (end, refl, refl))

-- a header, and then those behind it
pub one_more : (text lines behind : List ℕ) (old now : Lists Name Field) → begins_end text ≡ false → lines ≡ header_in text
    → behind ≡ behind_header text
    → ((name : Name) × (field : Field) × IsHeader name field lines × (now ≡ appended same_name old name field))
    → (rest : List ℕ) (new : Lists Name Field) → IsReadAs behind now rest new → IsReadAs text old rest new
one_more text lines behind old now goes_on is_lines is_behind header rest new read =
    let all : IsReadAs (behind_header text) (appended same_name old header.0 header.1) rest new =
    subst (λ m. IsReadAs (behind_header text) m rest new) header.3 (subst (λ b. IsReadAs b now rest new) is_behind read) in
    ((header.0, header.1) ∷ all.0, (goes_on, subst (IsHeader header.0 header.1) is_lines header.2, all.1))
