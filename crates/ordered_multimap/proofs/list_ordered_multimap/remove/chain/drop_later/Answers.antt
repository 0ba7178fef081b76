use Rattle.std.proofs.Common.{◌≡◌, ◌∷◌, not, length, refl, sym, ap, ◌∙◌, subst, arith}
use Rattle.multimap_slots.specs.Lists.{IsIn}
use Rattle.multimap_slots.specs.Tapes.{Taped}
use Rattle.multimap_walks.specs.declared.links.ValueLink.{ValueLink}
use Rattle.ordered_multimap.specs.Private.Remove.{among}
use Rattle.ordered_multimap.specs.TapeNumbers.{TakesOut, numbers_of}
use Rattle.ordered_multimap.proofs.Callers.Members.{IsIn-filter}
use Rattle.ordered_multimap.proofs.Remove.LaterValues.{behind_head, head_apart, head_listed, later_row, length_behind}
use Rattle.ordered_multimap.proofs.Remove.ValueByValue.{among-none, gone_whole}
use Rattle.ordered_multimap.proofs.Remove.WaysOut.{leaving-counts}
use Rattle.ordered_multimap.proofs.list_ordered_multimap.remove.chain.drop_later.Goals as goal

pub listed_link-requires : goal.listed_link-requires
listed_link-requires g c =
    let s = c.requires.chain in
    head_listed s.chains.sound s.chains.chained c.args.place c.listed_link_mut-link.result.now s.listed
    c.listed_link_mut-link.ensures.value.link_is

pub unlink_values-left-requires-clause-row : goal.unlink_values-left-requires-clause-row
unlink_values-left-requires-clause-row g c =
    let s = c.requires.chain in
    let l = c.listed_link_mut-link.result.now in
    let is = c.listed_link_mut-link.ensures.value.link_is in (
      _,
      later_row s.chains.sound s.chains.chained c.args.place l s.listed is (c.requires.more l is) c.listed_link.result
          c.listed_link.ensures.link.link_is c.unwrap_or-second.ensures,
    )

pub set_next-requires-clause-listed : goal.set_next-requires-clause-listed
set_next-requires-clause-listed g c =
    let s = c.requires.chain in
    let l = c.listed_link_mut-link.result.now in
    let is = c.listed_link_mut-link.ensures.value.link_is in
    let row = behind_head s.chains.sound s.chains.chained c.args.place l s.listed is in
    let left = c.unlink_values-left.ensures.left _
    (later_row s.chains.sound s.chains.chained c.args.place l s.listed is (c.requires.more l is) c.listed_link.result
    c.listed_link.ensures.link.link_is c.unwrap_or-second.ensures) in
    let gone = gone_whole left.1.taking (omega (arith, length_behind s.chains.sound s.chains.chained c.args.place l s.listed is)) in
    subst (IsIn l.head) (sym left.1.taking.taken.order)
    (IsIn-filter (λ q. not (among left.1.taking.gone q)) l.head c.args.values.now.list.order
    (ap not (ap (λ ps. among ps l.head) gone
    ∙ among-none row.rest l.head (head_apart s.chains.sound s.chains.chained c.args.place l s.listed is)))
    (head_listed s.chains.sound s.chains.chained c.args.place l s.listed is))

pub returns : goal.returns
returns g c =
    let s = c.requires.chain in
    let l = c.listed_link_mut-link.result.now in
    let is = c.listed_link_mut-link.ensures.value.link_is in
    let row = behind_head s.chains.sound s.chains.chained c.args.place l s.listed is in
    let left = c.unlink_values-left.ensures.left _
    (later_row s.chains.sound s.chains.chained c.args.place l s.listed is (c.requires.more l is) c.listed_link.result
    c.listed_link.ensures.link.link_is c.unwrap_or-second.ensures) in
    let gone = gone_whole left.1.taking (omega (arith, length_behind s.chains.sound s.chains.chained c.args.place l s.listed is)) in
    let m = c.set_next.ensures in
    record {
      later = record {
        link = l;
        link_is = is;
        gone = left.1.taking.gone;
        parts = row.is ∙ ap (λ ps. l.head ∷ ps) (sym gone);
        left = c.unlink_values-left.new.values.list;
        taken = left.1.taking.taken;
        rest = ap (λ v. v.list) m.rest;
        alone = λ v has. m.here l.head v refl has;
        links = λ q differs. m.others q (λ e. differs (let same : l.head ≡ q = cc in sym same));
        keys_are = refl;
      };
      counts = subst (λ (v : Taped g.row.V.Denot ValueLink). TakesOut (length left.1.taking.gone) (numbers_of c.args.values.now)
          (numbers_of v))
          (sym m.rest)
          (subst (λ n. TakesOut n (numbers_of c.args.values.now) (numbers_of c.unlink_values-left.new.values)) (sym left.1.taking.count)
          (leaving-counts left.1));
    }
