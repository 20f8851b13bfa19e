-- Lists that begin with another, and lexical forms written piece by piece.
use Rattle.std.proofs.Common.{◌≡◌, ℕ, ◌+◌, ◌-◌, ◌<◌, ◌≤◌, List, [], ◌∷◌, ◌++◌, length, get_or, take, drop, refl, sym, ap, ◌∙◌, arith, append_assoc}
use Rattle.std.proofs.lemmas.List.{take_more, append-nil, take-take, take-append-le, length-append, length-take-le, drop-append-le, length-take, drop-take, drop_all, take_all}
use Rattle.text_rules.specs.Escaped.{KeepsStart, escaped, escaped_byte}

pub keeps_same : (old : List ℕ) → KeepsStart old old
keeps_same [] = refl
keeps_same (x ∷ xs) = ap (λ ys. x ∷ ys) (keeps_same xs)

pub keeps_more : (old a : List ℕ) → KeepsStart old (old ++ a)
keeps_more [] a = refl
keeps_more (x ∷ xs) a = ap (λ ys. x ∷ ys) (keeps_more xs a)

pub keeps_further : (old a new : List ℕ) → KeepsStart (old ++ a) new → KeepsStart old new
keeps_further old a new h = sym (take-take (length old) (length (old ++ a)) new (omega (arith, length-append old a))) ∙ ap (λ l. take (length old) l) h ∙ keeps_more old a

pub escaped-append : (a b : List ℕ) → escaped (a ++ b) ≡ escaped a ++ escaped b
escaped-append [] b = refl
escaped-append (x ∷ a) b = ap (λ l. escaped_byte x ++ l) (escaped-append a b) ∙ sym (append_assoc (escaped_byte x) (escaped a) (escaped b))

-- one byte more of a lexical form
pub escaped_more : (text : List ℕ) (i : ℕ) → i < length text → escaped (take (i + 1) text) ≡ escaped (take i text) ++ escaped_byte (get_or text i 0)
escaped_more text i h = ap escaped (take_more text i 0 h) ∙ escaped-append (take i text) (get_or text i 0 ∷ []) ∙ ap (λ l. escaped (take i text) ++ l) (append-nil (escaped_byte (get_or text i 0)))

module _ (out before text : List ℕ) (start i : ℕ) (le : start ≤ i) (lt : i < length text) (told : out ++ drop start (take i text) ≡ before ++ escaped (take i text)) where
  abbrev byte : ℕ
  byte = get_or text i 0

  longer : drop start (take (i + 1) text) ≡ drop start (take i text) ++ byte ∷ []
  longer =
      let within : start ≤ length (take i text) = omega (arith, length-take-le i text (omega arith)) in
      ap (λ l. drop start l) (take_more text i 0 lt) ∙ drop-append-le start (take i text) (byte ∷ []) within

  -- a byte that is written as it is
  pub plain_step : escaped_byte byte ≡ byte ∷ [] → out ++ drop start (take (i + 1) text) ≡ before ++ escaped (take (i + 1) text)
  plain_step e =
      ap (λ l. out ++ l) longer ∙ sym (append_assoc out (drop start (take i text)) (byte ∷ [])) ∙ ap (λ l. l ++ byte ∷ []) told
      ∙ append_assoc before (escaped (take i text)) (byte ∷ []) ∙ sym (ap (λ l. before ++ l) (escaped_more text i lt ∙ ap (λ l. escaped (take i text) ++ l) e))

  -- a byte behind a backslash: the piece before it is copied
  pub escape_step : (code : ℕ) (now : List ℕ) → escaped_byte byte ≡ 92 ∷ code ∷ [] → now ≡ out ++ (take (i - start) (drop start text) ++ 92 ∷ code ∷ [])
      → now ++ drop (i + 1) (take (i + 1) text) ≡ before ++ escaped (take (i + 1) text)
  escape_step code now e h =
      let room : start + (i - start) ≡ i = omega arith in
      let piece : take (i - start) (drop start text) ≡ drop start (take i text) = sym (drop-take start (i - start) text) ∙ ap (λ n. drop start (take n text)) room in
      let none : drop (i + 1) (take (i + 1) text) ≡ [] = drop_all (i + 1) (take (i + 1) text) (omega (arith, length-take-le (i + 1) text (omega arith))) in
      ap (λ l. now ++ l) none ∙ append-nil now ∙ h ∙ ap (λ l. out ++ (l ++ 92 ∷ code ∷ [])) piece
      ∙ sym (append_assoc out (drop start (take i text)) (92 ∷ code ∷ [])) ∙ ap (λ l. l ++ 92 ∷ code ∷ []) told
      ∙ append_assoc before (escaped (take i text)) (92 ∷ code ∷ []) ∙ sym (ap (λ l. before ++ l) (escaped_more text i lt ∙ ap (λ l. escaped (take i text) ++ l) e))

-- the last piece
pub last_piece : (out before text : List ℕ) (start i : ℕ) → length text ≤ i → out ++ drop start (take i text) ≡ before ++ escaped (take i text) → out ++ drop start text ≡ before ++ escaped text
last_piece out before text start i h told = rw (take_all i text h) at told

pub keeps_on : (old mid a : List ℕ) → KeepsStart old mid → KeepsStart old (mid ++ a)
keeps_on old mid a h =
    let within : length old ≤ length mid = omega (arith, length-take (length old) mid, ap length h) in
    take-append-le (length old) mid a within ∙ h
