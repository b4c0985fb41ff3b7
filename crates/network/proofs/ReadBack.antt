-- Routes that were written as counts and numbers are read back as they were.
use Rattle.std.proofs.Common.{◌≡◌, ℕ, zero, suc, ◌+◌, ◌<◌, ◌≤◌, true, ltb, ◌≢◌, List, [], ◌∷◌, ◌++◌, map, length, take, drop, sym, refl, ap, ◌∙◌, ap₂, append_assoc, arith, length-append, take_at, drop_at}
use lib.ListN.{length-map}
use Rattle.std.proofs.lemmas.Bool.{eq-eqb, ne_eqb, ltb-true, both_ways}
use Rattle.network.specs.declared.line.Line.{Line}
use Rattle.network.specs.Lists.{among, distinct, every}
use Rattle.network.specs.Routes.{written, number_at, encoded, position_of, decode_by}
use Rattle.network.specs.Laws.{ReadBack}
use Rattle.network.proofs.Lists.{among_here, among_later, distinct_parts, every_parts}

-- what is written

pub written_none : (f : ℕ → ℕ) → written f [] ≡ []
unfolding written
written_none f = refl

pub written_cons : (f : ℕ → ℕ) (r : List ℕ) (rs : List (List ℕ)) → written f (r ∷ rs) ≡ length r ∷ (map f r ++ written f rs)
unfolding written
written_cons f r rs = refl

pub written_append : (f : ℕ → ℕ) (rs ss : List (List ℕ)) → written f (rs ++ ss) ≡ written f rs ++ written f ss
unfolding written
written_append f [] ss = refl
written_append f (r ∷ rs) ss =
    ap {B = List ℕ} (λ t. length r ∷ (map f r ++ t)) (written_append f rs ss)
    ∙ ap {B = List ℕ} (λ t. length r ∷ t) (sym (append_assoc (map f r) (written f rs) (written f ss)))

pub length_written_cons : (f : ℕ → ℕ) (r : List ℕ) (rs : List (List ℕ)) → length (written f (r ∷ rs)) ≡ suc (length r + length (written f rs))
unfolding written
length_written_cons f r rs = ap suc (length-append (map f r) (written f rs) ∙ ap (λ k. k + length (written f rs)) (length-map r f))

-- the length does not depend on how the lines are told
pub length_written_like : (f g : ℕ → ℕ) (rs : List (List ℕ)) → length (written f rs) ≡ length (written g rs)
length_written_like f g [] = ap length (written_none f) ∙ sym (ap length (written_none g))
length_written_like f g (r ∷ rs) =
    length_written_cons f r rs ∙ ap (λ k. suc (length r + k)) (length_written_like f g rs) ∙ sym (length_written_cons g r rs)

-- each route has its count
pub length_written_ge : (f : ℕ → ℕ) (rs : List (List ℕ)) → length rs ≤ length (written f rs)
length_written_ge f [] = omega arith
length_written_ge f (r ∷ rs) = omega (arith, length_written_cons f r rs, length_written_ge f rs)

-- reading it

map_back : (f g : ℕ → ℕ) (n : ℕ) → ((p : ℕ) → p < n → g (f p) ≡ p) → (xs : List ℕ) → every (λ p. ltb p n) xs ≡ true → map g (map f xs) ≡ xs
map_back f g n h [] e = refl
map_back f g n h (x ∷ xs) e =
    let q = every_parts (λ p. ltb p n) x xs e in
    ap₂ {C = List ℕ} (λ y ys. y ∷ ys) (h x (ltb-true x n q.0)) (map_back f g n h xs q.1)

-- the routes are read back wherever each line is found by what it was told as, and the size allows as many routes
pub decode_written : (ls : List Line) (f : ℕ → ℕ) (n : ℕ) → ((p : ℕ) → p < n → position_of ls (f p) ≡ p)
    → (size : ℕ) (rs : List (List ℕ)) → length rs ≤ size → every (λ r. every (λ p. ltb p n) r) rs ≡ true → decode_by ls size (written f rs) ≡ rs
unfolding decode_by written
decode_written ls f n h zero [] l e = refl
decode_written ls f n h zero (r ∷ rs) l e = absurd (let z : ⊥ = omega arith in z)
decode_written ls f n h (suc size) [] l e = refl
decode_written ls f n h (suc size) (r ∷ rs) l e =
    let q = every_parts (λ s. every (λ p. ltb p n) s) r rs e in
    let front : take (length r) (map f r ++ written f rs) ≡ map f r = take_at (map f r) (written f rs) (length r) (length-map r f) in
    let back : drop (length r) (map f r ++ written f rs) ≡ written f rs = drop_at (map f r) (written f rs) (length r) (length-map r f) in
    ap₂ {C = List (List ℕ)} (λ s ss. s ∷ ss)
    (ap (map (position_of ls)) front ∙ map_back f (position_of ls) n h r q.0)
    (ap (decode_by ls size) back ∙ decode_written ls f n h size rs (omega arith) q.1)

number_among : (ls : List Line) (p : ℕ) → p < length ls → among (map (λ l. l.number) ls) (number_at ls p) ≡ true
number_among [] p h = absurd (let z : ⊥ = omega arith in z)
number_among (l ∷ ls) zero h = among_here l.number (map (λ l. l.number) ls)
number_among (l ∷ ls) (suc p) h = among_later l.number (number_at ls p) (map (λ l. l.number) ls) (number_among ls p (omega arith))

-- where no two lines have one number, each is found by its own
pub position_number : (ls : List Line) (p : ℕ) → distinct (map (λ l. l.number) ls) ≡ true → p < length ls → position_of ls (number_at ls p) ≡ p
unfolding position_of
position_number [] p d h = absurd (let z : ⊥ = omega arith in z)
position_number (l ∷ ls) zero d h = rw (eq-eqb l.number l.number refl)
position_number (l ∷ ls) (suc p) d h =
    let q = distinct_parts l.number (map (λ l. l.number) ls) d in
    let ne : l.number ≢ number_at ls p = λ e. both_ways (among (map (λ l. l.number) ls) l.number) q.0
    (ap (among (map (λ l. l.number) ls)) e ∙ number_among ls p (omega arith)) in
    rw (ne_eqb l.number (number_at ls p) ne) (ap suc (position_number ls p q.1 (omega arith)))

pub read_back : ReadBack
read_back ls rs d e =
    decode_written ls (number_at ls) (length ls) (λ p h. position_number ls p d h) (length (encoded ls rs)) rs (length_written_ge (number_at ls) rs) e
