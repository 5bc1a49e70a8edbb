-- `Appended`: pieces that are added one after another, within the 32 places.
use Rattle.std.proofs.Common.{◌≡◌, ◌<◌, ◌≤◌, Bool, true, false, leb, List, [], ◌++◌, length, take, is_ok, is_err, Some, None, Ok, Err, Option, Result, sym, refl, ap, ◌∙◌, subst, append_assoc, append-nil, arith, length-append, length-take}
use Rattle.std.proofs.lemmas.List.{length-map, take_all, take-append-le}
use Rattle.std.proofs.lemmas.Bool.{cond-false, cond-true, false≢true, le-leb, leb-false, leb-true, lt-leb}
use Rattle.std.specs.Option.{option_to_list}
use Rattle.domain.specs.declared.attributes.Bounds.{Bounds}
use Rattle.boxes.specs.declared.cell_box.pieces.Pieces.{Pieces}
use Rattle.boxes.specs.Pieces.{pieces_given, pieces_of}
use Rattle.boxes.specs.Splits.{Appended, unbroken}

pub err_not_ok : {X E : Type 0} (r : Result X E) → is_err r ≡ true → is_ok r ≡ false
err_not_ok (Ok x) e = absurd (false≢true e)
err_not_ok (Err y) e = refl

pub pieces_length : (p : Pieces) → length (pieces_of p) ≡ p.len
pieces_length p =
    let fits : p.len ≤ 32 = p.fits in
    let whole : length p.boxes ≡ 32 = p.places in
    simp (length-map, length-take) (omega arith)

pub pieces_fit : (p : Pieces) → length (pieces_of p) ≤ 32
pieces_fit p = let fits : p.len ≤ 32 = p.fits in omega (arith, pieces_length p)

module _ (before more : List Bounds) where
  -- all of them have room
  pub appended_all : length (before ++ more) ≤ 32 → Appended before more (before ++ more) true
  appended_all h = record { pieces = sym (take_all 32 (before ++ more) h); fits = sym (le-leb _ _ h) }

  pub appended_whole : {after : List Bounds} → Appended before more after true → after ≡ before ++ more
  appended_whole a = a.pieces ∙ take_all 32 (before ++ more) (leb-true _ _ (sym a.fits))

  -- then comes more; or what comes later finds no room either
  pub appended_then : {after end : List Bounds} {ok : Bool} (next : List Bounds)
      → Appended before more after true → Appended after next end ok → Appended before (more ++ next) end ok
  appended_then {after} {end} {ok} next a b =
      let same : after ++ next ≡ before ++ (more ++ next) = ap (λ xs. xs ++ next) (appended_whole a) ∙ append_assoc before more next in
      record { pieces = b.pieces ∙ ap (take 32) same; fits = b.fits ∙ ap (λ xs. leb (length xs) 32) same }

  pub appended_stop : {after : List Bounds} (next : List Bounds) → Appended before more after false → Appended before (more ++ next) after false
  appended_stop next a =
      let over : 32 < length (before ++ more) = leb-false _ _ (sym a.fits) in
      let same : (before ++ more) ++ next ≡ before ++ (more ++ next) = append_assoc before more next in
      record {
        pieces = a.pieces ∙ (sym (take-append-le 32 (before ++ more) next (omega arith)) ∙ ap (take 32) same);
        fits = sym (lt-leb _ _ (subst (λ xs. 32 < length xs) same (simp length-append (omega (arith, length-append before more)))));
      }

pub appended_none : (before : List Bounds) → length before ≤ 32 → Appended before [] before true
appended_none before h = record { pieces = sym (ap (take 32) (append-nil before) ∙ take_all 32 before h); fits = sym (le-leb _ _ (rw append-nil h)) }

-- what was refused is told by a result that is an error
pub appended_err : {X E : Type 0} {before more after : List Bounds} (r : Result X E) → is_err r ≡ true → Appended before more after false → Appended before more after (is_ok r)
appended_err {before = before} {more = more} {after = after} r e a = subst (Appended before more after) (sym (err_not_ok r e)) a

-- a piece that may be absent, told by another name
pub appended_named : {before after : List Bounds} {ok : Bool} {o p : Option Bounds} → o ≡ p → Appended before (option_to_list o) after ok → Appended before (option_to_list p) after ok
appended_named {before} {after} {ok} e a = subst (λ x. Appended before (option_to_list x) after ok) e a

-- the state of a loop that adds pieces: whatever what is left makes of the pieces at hand, the whole makes of those at the start
abbrev pub Leads : (before whole at left : List Bounds) → Type 0
Leads before whole at left = (end : List Bounds) (ok : Bool) → Appended at left end ok → Appended before whole end ok

module _ (before whole at left : List Bounds) (leads : Leads before whole at left) where
  -- a turn that finds room for the first of what is left; one that does not; and the end
  pub leads_more : {after : List Bounds} (first rest : List Bounds) → left ≡ first ++ rest → Appended at first after true → Leads before whole after rest
  leads_more first rest e a = λ end ok b. leads end ok (subst (λ m. Appended at m end ok) (sym e) (appended_then at first rest a b))

  pub leads_stop : {after : List Bounds} (first rest : List Bounds) → left ≡ first ++ rest → Appended at first after false → Appended before whole after false
  leads_stop {after} first rest e a = leads after false (subst (λ m. Appended at m after false) (sym e) (appended_stop at first rest a))

  pub leads_end : left ≡ [] → length at ≤ 32 → Appended before whole at true
  leads_end e h = leads at true (subst (λ m. Appended at m at true) (sym e) (appended_none at h))

-- what was added to no piece is the whole list, unless it is too long
pub appended_unbroken : (more after : List Bounds) → Appended [] more after true → Some after ≡ unbroken more
appended_unbroken more after a = ap Some (appended_whole [] more a) ∙ sym (cond-true _ _ _ (sym a.fits))

pub appended_broken : (more after : List Bounds) → Appended [] more after false → None ≡ unbroken more
appended_broken more after a = sym (cond-false _ _ _ (sym a.fits))

pub given_err : {E : Type 0} (r : Result Pieces E) → is_err r ≡ true → pieces_given r ≡ None
given_err (Ok p) e = absurd (false≢true e)
given_err (Err y) e = refl
