use Rattle.std.proofs.Common.{◌≡◌, ℕ, false, List, length, get_or, vec_items, vec_len, Option, refl, subst, arith, rules}
use Rattle.std.proofs.lemmas.Bool.{le-ltb}
use Rattle.network.specs.declared.site.Site.{Site}
use Rattle.network.specs.Groups.{group_list}
use Rattle.cuttree.specs.Trees.{GroupsTold, GroupsOf}
use Rattle.book.specs.Calls.{site_number, k_out}
use Rattle.book.proofs.Grouping.{Grouped, grouped, entry_within}
use Rattle.book.proofs.Laying.{named}
use Rattle.book.proofs.held.Book.list_groups.Goals as goal

pub name_places-requires : goal.name_places-requires
name_places-requires g c =
    let b = c.args.self.now in let n = vec_len b.sites in let ls = vec_items b.lines in let k = c.args.k in
    let list = c.args.list.now in let list' = c.groups.new.list in let r = c.unwrap-count.result in
    let h = grouped n ls b.tree k list list' r b.spans b.tells
    (subst (λ (o : Option ℕ). GroupsTold b.tree k list list' o) c.unwrap-count.ensures c.groups.ensures.told)
    (subst (λ (o : Option ℕ). GroupsOf b.tree k list' o) c.unwrap-count.ensures c.groups.ensures.network) in
    let size : length c.deref.result.now ≡ n = c.deref.ensures.len in
    record {
      room = omega (arith, size, c.groups.auto.list, c.if-list-len.false, c.len.ensures);
      inside = λ i l. omega (arith, size, entry_within n ls k list list' r b.joined h i (omega (arith, l, size)));
    }

pub returns : goal.returns
returns g c =
    let b = c.args.self.now in let n = vec_len b.sites in let ls = vec_items b.lines in let k = c.args.k in let ss = vec_items b.sites in
    let list = c.args.list.now in let list' = c.groups.new.list in let r = c.unwrap-count.result in
    let m : n ≡ length ss = b.sites.ok.0 in
    let h : Grouped (length ss) ls k list list' r =
    subst (λ (z : ℕ). Grouped z ls k list list' r) m
    (grouped n ls b.tree k list list' r b.spans b.tells
    (subst (λ (o : Option ℕ). GroupsTold b.tree k list list' o) c.unwrap-count.ensures c.groups.ensures.told)
    (subst (λ (o : Option ℕ). GroupsOf b.tree k list' o) c.unwrap-count.ensures c.groups.ensures.network)) in
    let out : k_out k ≡ false = search rules in (
      rw (out, le-ltb (length list) (length ss) (omega (arith, m, c.if-list-len.false, c.len.ensures))) refl,
      h.count,
      named (length ss) (site_number ss) list list' c.name_places.new.list (group_list (length ss) ls k)
          (omega (arith, m, c.if-list-len.false, c.len.ensures, c.groups.auto.list)) c.name_places.auto.list h.entries h.rest
          (λ i l. subst (λ (z : List Site). get_or c.name_places.new.list i 0 ≡ site_number z (get_or list' i 0)) c.deref.ensures.value (c.name_places.ensures.named i (omega (arith, l, m, c.deref.ensures.len))))
          (λ i l. c.name_places.ensures.rest i (omega (arith, l, m, c.deref.ensures.len))),
    )
