-- A ligature: the slices keep their lengths, and the characters of each component come to the ligature's tag.
use Prim.Native.Nat.{ℕ, zero, suc, ◌<◌, ◌≤◌}
use mathlib.Core.Path.{◌≡◌, refl, ◌∙◌, sym, ap}
use mathlib.Core.Bool.{Bool, true, false, cond, not}
use mathlib.Core.List.{List, [], ◌∷◌, map}
use mathlib.Core.Logic.{⊎_elim}
use native.Mathlib.Nat.{not-suc-le-zero, le_of_suc-le-suc}
use lib.Dec.{ltb, eqb}
use lib.ListN.{length, get_or, set, length-set, length-map}
use borrow.Author.Tests.{lt-ltb, le-ltb, eq-eqb, ne_eqb, ltb-true}
use Rattle.laws.specs.Choose.{if_eq}
use Rattle.laws.specs.Lists.{both}
use Rattle.laws.proofs.Choices.{if_lt_yes, if_lt_no, if_eq_yes, if_eq_no}
use Rattle.laws.proofs.Lists.{both_left}
use Rattle.laws.proofs.Numbers.{lt-or-ge, eq-or-ne}
use Rattle.line.specs.Line.{OnceEach}
use Rattle.line.specs.Edits.{Edit, among, carry}
use Rattle.line.specs.Changes.{written, is_part, emptied, rehomed, handed, emptied_all, handed_all, joined_glyphs, joined_homes}
use Rattle.line.proofs.Once.{same_place}

pub length-written : (used at glyph : ℕ) (glyphs : List ℕ) → length (written used at glyph glyphs) ≡ length glyphs
unfolding written
length-written used at glyph glyphs =
    ⊎_elim
    (λ (h : at < used). rw (if_lt_yes (set glyphs at glyph) glyphs h) (length-set glyphs at glyph))
    (λ (h : used ≤ at). rw (if_lt_no (set glyphs at glyph) glyphs h))
    (lt-or-ge at used)

pub length-emptied : (used at part : ℕ) (glyphs : List ℕ) → length (emptied used at part glyphs) ≡ length glyphs
unfolding emptied
length-emptied used at part glyphs = go (is_part used at part)
  where
    go : (b : Bool) → length (cond b (set glyphs part 0xFFFF) glyphs) ≡ length glyphs
    go true = length-set glyphs part 0xFFFF
    go false = refl

length-emptied_all : (used at : ℕ) (parts glyphs : List ℕ) → length (emptied_all used at parts glyphs) ≡ length glyphs
unfolding emptied_all
length-emptied_all used at [] glyphs = refl
length-emptied_all used at (part ∷ parts) glyphs =
    length-emptied_all used at parts (emptied used at part glyphs) ∙ length-emptied used at part glyphs

pub length-joined_glyphs : (used at glyph : ℕ) (parts glyphs : List ℕ) → length (joined_glyphs used at glyph parts glyphs) ≡ length glyphs
unfolding joined_glyphs
length-joined_glyphs used at glyph parts glyphs =
    ⊎_elim
    (λ (h : at < used).
    rw (if_lt_yes (emptied_all used at parts (set glyphs at glyph)) glyphs h)
    (length-emptied_all used at parts (set glyphs at glyph) ∙ length-set glyphs at glyph))
    (λ (h : used ≤ at). rw (if_lt_no (emptied_all used at parts (set glyphs at glyph)) glyphs h))
    (lt-or-ge at used)

pub length-rehomed : (from to : ℕ) (homes : List ℕ) → length (rehomed from to homes) ≡ length homes
unfolding rehomed
length-rehomed from to homes = length-map homes (λ home. if_eq home from to home)

pub length-handed : (used at part : ℕ) (tags homes : List ℕ) → length (handed used at part tags homes) ≡ length homes
unfolding handed
length-handed used at part tags homes = go (is_part used at part)
  where
    go : (b : Bool) → length (cond b (rehomed (get_or tags part 0) (get_or tags at 0) homes) homes) ≡ length homes
    go true = length-rehomed _ _ homes
    go false = refl

length-handed_all : (used at : ℕ) (parts tags homes : List ℕ) → length (handed_all used at parts tags homes) ≡ length homes
unfolding handed_all
length-handed_all used at [] tags homes = refl
length-handed_all used at (part ∷ parts) tags homes =
    length-handed_all used at parts tags (handed used at part tags homes) ∙ length-handed used at part tags homes

pub length-joined_homes : (used at : ℕ) (parts tags homes : List ℕ) → length (joined_homes used at parts tags homes) ≡ length homes
unfolding joined_homes
length-joined_homes used at parts tags homes =
    ⊎_elim
    (λ (h : at < used). rw (if_lt_yes (handed_all used at parts tags homes) homes h) (length-handed_all used at parts tags homes))
    (λ (h : used ≤ at). rw (if_lt_no (handed_all used at parts tags homes) homes h))
    (lt-or-ge at used)

get_d_map : (f : ℕ → ℕ) (xs : List ℕ) (i : ℕ) → i < length xs → get_or (map f xs) i 0 ≡ f (get_or xs i 0)
get_d_map f [] i h = absurd (not-suc-le-zero h)
get_d_map f (x ∷ xs) zero h = refl
get_d_map f (x ∷ xs) (suc i) h = get_d_map f xs i (le_of_suc-le-suc h)

pub get_d_rehomed : (from to : ℕ) (homes : List ℕ) (c : ℕ) → c < length homes
    → get_or (rehomed from to homes) c 0 ≡ if_eq (get_or homes c 0) from to (get_or homes c 0)
unfolding rehomed
get_d_rehomed from to homes c h = get_d_map (λ home. if_eq home from to home) homes c h

-- a component: off the line, at the ligature's own place, or one that counts
module _ (used at part : ℕ) where
  pub part_off : used ≤ part → is_part used at part ≡ false
  unfolding is_part
  part_off h = rw (le-ltb _ _ h)

  pub part_own : part ≡ at → is_part used at part ≡ false
  unfolding is_part
  part_own e = rw (eq-eqb _ _ e) (go (ltb part used))
    where
      go : (b : Bool) → both b false ≡ false
      go true = refl
      go false = refl

  pub part_counts : part < used → (part ≡ at → ⊥) → is_part used at part ≡ true
  unfolding is_part
  part_counts h k = rw (lt-ltb _ _ h, ne_eqb _ _ k)

  part_inside : is_part used at part ≡ true → part < used
  unfolding is_part
  part_inside e = ltb-true _ _ (both_left (ltb part used) (not (eqb part at)) e)

-- a character at the place p: one component takes it to the ligature if it is at p
module _ (used at : ℕ) (tags : List ℕ) (o : OnceEach tags used) (inside : at < used) where
  handed-there : (part : ℕ) (homes : List ℕ) (c p : ℕ) → c < length homes → p < used → get_or homes c 0 ≡ get_or tags p 0
      → get_or (handed used at part tags homes) c 0 ≡ get_or tags (if_eq p part at p) 0
  unfolding handed
  handed-there part homes c p hc hp e =
      ⊎_elim
      (λ (i : p ≡ part). rw (if_eq_yes at p i) (own i (is_part used at part) refl))
      (λ (i : p ≡ part → ⊥). rw (if_eq_no at p i) (other i (is_part used at part) refl))
      (eq-or-ne p part)
    where
      own : p ≡ part → (b : Bool) → is_part used at part ≡ b
          → get_or (cond b (rehomed (get_or tags part 0) (get_or tags at 0) homes) homes) c 0 ≡ get_or tags at 0
      own i true k = get_d_rehomed _ _ homes c hc ∙ if_eq_yes _ _ (e ∙ ap (λ (q : ℕ). get_or tags q 0) i)
      own i false k =
          ⊎_elim
          (λ (j : part ≡ at). e ∙ ap (λ (q : ℕ). get_or tags q 0) (i ∙ j))
          (λ (j : part ≡ at → ⊥).
          let y : is_part used at part ≡ true = part_counts used at part (rw i at hp) j in
          cc)
          (eq-or-ne part at)

      other : (p ≡ part → ⊥) → (b : Bool) → is_part used at part ≡ b
          → get_or (cond b (rehomed (get_or tags part 0) (get_or tags at 0) homes) homes) c 0 ≡ get_or tags p 0
      other i true k =
          get_d_rehomed _ _ homes c hc
          ∙ if_eq_no _ _ (λ (j : get_or homes c 0 ≡ get_or tags part 0). i (same_place o hp (part_inside used at part k) (sym e ∙ j)))
          ∙ e
      other i false k = e

  -- all of them, one after the other
  handed_all-there : (parts homes : List ℕ) (c p : ℕ) → c < length homes → p < used → get_or homes c 0 ≡ get_or tags p 0
      → get_or (handed_all used at parts tags homes) c 0 ≡ get_or tags (cond (among p parts) at p) 0
  unfolding handed_all among
  handed_all-there [] homes c p hc hp e = e
  handed_all-there (part ∷ parts) homes c p hc hp e =
      ⊎_elim
      (λ (i : p ≡ part).
      rw (eq-eqb p part i)
      (handed_all-there parts (handed used at part tags homes) c at (rw (length-handed used at part tags homes) hc) inside
      (handed-there part homes c p hc hp e ∙ ap (λ (q : ℕ). get_or tags q 0) (if_eq_yes at p i))
      ∙ ap (λ (q : ℕ). get_or tags q 0) (always (among at parts))))
      (λ (i : p ≡ part → ⊥).
      rw (ne_eqb p part i)
      (handed_all-there parts (handed used at part tags homes) c p (rw (length-handed used at part tags homes) hc) hp
      (handed-there part homes c p hc hp e ∙ ap (λ (q : ℕ). get_or tags q 0) (if_eq_no at p i))))
      (eq-or-ne p part)
    where
      always : (b : Bool) → cond b at at ≡ at
      always true = refl
      always false = refl

-- the whole ligature, also where it is off the line
module _ (used at : ℕ) (parts tags homes : List ℕ) (o : OnceEach tags used) (c p : ℕ) where
  pub joined-there : c < length homes → p < used → get_or homes c 0 ≡ get_or tags p 0
      → get_or (joined_homes used at parts tags homes) c 0 ≡ get_or tags (carry (Edit.ligature at parts) used p) 0
  unfolding joined_homes carry
  joined-there hc hp e =
      ⊎_elim
      (λ (h : at < used).
      rw (if_lt_yes (handed_all used at parts tags homes) homes h)
      (handed_all-there used at tags o h parts homes c p hc hp e ∙ ap (λ (q : ℕ). get_or tags q 0) (sym (if_lt_yes _ _ h))))
      (λ (h : used ≤ at).
      rw (if_lt_no (handed_all used at parts tags homes) homes h) (e ∙ ap (λ (q : ℕ). get_or tags q 0) (sym (if_lt_no _ _ h))))
      (lt-or-ge at used)

pub joined-below : (used at : ℕ) (parts : List ℕ) (p : ℕ) → p < used → carry (Edit.ligature at parts) used p < used
unfolding carry
joined-below used at parts p hp =
    ⊎_elim
    (λ (h : at < used). rw (if_lt_yes (cond (among p parts) at p) p h) (either (among p parts) h))
    (λ (h : used ≤ at). rw (if_lt_no (cond (among p parts) at p) p h) hp)
    (lt-or-ge at used)
  where
    either : (b : Bool) → at < used → cond b at p < used
    either true h = h
    either false h = hp
