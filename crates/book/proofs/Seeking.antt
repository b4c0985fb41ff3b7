-- The search for the row of a number.
use Rattle.std.proofs.Common.{◌≡◌, ℕ, ◌+◌, ◌<◌, ◌≤◌, true, false, cond, ◌||◌, eqb, List, ◌∷◌, ◌++◌, length, get_or, take, drop, sym, refl, ap, ◌∙◌, add-one, arith}
use Rattle.std.proofs.lemmas.List.{at_drop_more, at_drop_all, take_more, append_assoc}
use Rattle.book.specs.declared.standing.Standing.{Standing}
use Rattle.book.specs.Tables.{total_shown, stands, offset_of, length_of, without}
use Rattle.book.specs.Listings.{Found}

abbrev pub no_row : Standing
no_row = record { number = 0; held = 0; length = 0 }

-- the search for number j has come to this row
pub record Sought (ss : List Standing) (j row from : ℕ) : Type 0 where
  pub here : stands j (drop row ss) ≡ stands j ss
  pub begins : from + offset_of j (drop row ss) ≡ offset_of j ss
  pub many : length_of j (drop row ss) ≡ length_of j ss
  pub all : from + total_shown (drop row ss) ≡ total_shown ss
  pub rest : take row ss ++ without j (drop row ss) ≡ without j ss

pub sought_start : (ss : List Standing) (j : ℕ) → Sought ss j 0 0
sought_start ss j = record { here = refl; begins = omega arith; many = refl; all = omega arith; rest = refl }

module _ (ss : List Standing) (j row from : ℕ) (s : Sought ss j row from) (l : row < length ss) where
  -- what the words say at this row
  record Here : Type 0 where
    pub there : stands j (drop row ss) ≡ (eqb (get_or ss row no_row).number j || stands j (drop (row + 1) ss))
    pub offset : offset_of j (drop row ss) ≡ cond (eqb (get_or ss row no_row).number j) 0 ((get_or ss row no_row).length + offset_of j (drop (row + 1) ss))
    pub size : length_of j (drop row ss) ≡ cond (eqb (get_or ss row no_row).number j) (get_or ss row no_row).length (length_of j (drop (row + 1) ss))
    pub total : total_shown (drop row ss) ≡ (get_or ss row no_row).length + total_shown (drop (row + 1) ss)
    pub others : without j (drop row ss) ≡ cond (eqb (get_or ss row no_row).number j) (drop (row + 1) ss) (get_or ss row no_row ∷ without j (drop (row + 1) ss))

  here_now : Here
  unfolding stands offset_of length_of total_shown without
  here_now =
      record {
        there = at_drop_more (stands j) ss row no_row l;
        offset = at_drop_more (offset_of j) ss row no_row l;
        size = at_drop_more (length_of j) ss row no_row l;
        total = at_drop_more total_shown ss row no_row l;
        others = at_drop_more (without j) ss row no_row l;
      }

  pub sought_more : (eqb (get_or ss row no_row).number j ≡ false) → Sought ss j (row + 1) (from + (get_or ss row no_row).length)
  sought_more ne =
      let h = here_now in
      record {
        here = sym (rw ne at h.there) ∙ s.here;
        begins = let o = rw ne at h.offset in omega (arith, o, s.begins);
        many = sym (rw ne at h.size) ∙ s.many;
        all = omega (arith, h.total, s.all);
        rest = let w = rw ne at h.others in rw (take_more ss row no_row l, append_assoc) (ap (λ (x : List Standing). take row ss ++ x) (sym w) ∙ s.rest);
      }

  pub sought_found : (eqb (get_or ss row no_row).number j ≡ true) → Found ss j row from (get_or ss row no_row).length
  sought_found eq =
      let h = here_now in
      record {
        here = sym s.here ∙ rw eq at h.there;
        inside = l;
        begins = let o = rw eq at h.offset in omega (arith, o, s.begins);
        many = sym (rw eq at h.size) ∙ s.many;
        ends = omega (arith, h.total, s.all);
        rest = let w = rw eq at h.others in rw (sym (add-one row)) (ap (λ (x : List Standing). take row ss ++ x) (sym w) ∙ s.rest);
      }

  pub sought_within : from + (get_or ss row no_row).length ≤ total_shown ss
  sought_within = omega (arith, here_now.total, s.all)

pub sought_none : (ss : List Standing) (j row from : ℕ) → Sought ss j row from → length ss ≤ row → stands j ss ≡ false
unfolding stands
sought_none ss j row from s l = sym s.here ∙ at_drop_all (stands j) ss row l
