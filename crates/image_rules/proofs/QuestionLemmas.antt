-- Which signs show another publication.
use Rattle.std.proofs.Common.{◌≡◌, ℕ, ◌+◌, ◌-◌, ◌≤◌, ◌⊎◌, inl, inr, ⊎_elim, Bool, true, false, List, [], ◌∷◌, sym, refl, ap, ◌∙◌, subst, arith}
use Rattle.std.specs.Prelude.{Option, Some, None, not, ◌||◌, ◌&&◌, nat_le, if◌then◌else◌}
use Rattle.std.proofs.lemmas.Bool.Decides.{nat_tests}
use Rattle.image_rules.specs.declared.signs.Sign.{Sign}
use Rattle.image_rules.specs.declared.signs.Sign.TheVariants.{Heartbeat, Repeats, Setup}
use Rattle.image_rules.specs.declared.questions.Doubt.{Doubt}
use Rattle.image_rules.specs.declared.questions.Question.{Question}
use Rattle.image_rules.specs.Questions.{SignHeard, Has, ShowAnother, after_sign, after_signs, decides, is_another, is_decided, is_open_at, is_repeats, is_same_kind, may_begin_question}

-- the sign that a question began with
abbrev sign_of : Question → SignHeard
sign_of q = record { sign = q.first; time = q.since }

-- ---- where the last question comes from

-- the last question after a sign that begins one, or not
begun_by : (begins : Bool) (c : SignHeard) (d : Doubt) (q : Question)
    → (if begins then record { last = Some (record { first = c.sign; since = c.time }) } else d).last ≡ Some q → (d.last ≡ Some q) ⊎ (sign_of q ≡ c)
begun_by true c d q at = inr (cc)
begun_by false c d q at = inl at

-- the last question after some signs began with one of them, or was there before
began_with : (g : Bool) (cs : List SignHeard) (d : Doubt) (q : Question) → (after_signs g cs d).last ≡ Some q → (d.last ≡ Some q) ⊎ Has (sign_of q) cs
began_with g [] d q at = inl at
began_with g (c ∷ cs) d q at =
    ⊎_elim (λ before. ⊎_elim (λ e. inl e) (λ e. inr (inl e)) (begun_by (may_begin_question c.sign g c.time d) c d q before))
    (λ later. inr (inr later)) (began_with g cs (after_sign c.sign g c.time d) q at)

-- ---- what decides

nat_le_says : (m n : ℕ) → nat_le m n ≡ true → m ≤ n
nat_le_says m n says = grind (arith, nat_tests, says)

not_says : (b : Bool) → not b ≡ true → b ≡ false
not_says true says = absurd (cc)
not_says false says = refl

repeats_says : (s : Sign) → is_repeats s ≡ true → s ≡ Repeats
repeats_says Setup says = absurd (cc)
repeats_says Heartbeat says = absurd (cc)
repeats_says Repeats says = refl

-- the parts of a test that is passed
parts : (a b c d : Bool) → (a && ((b || c) || d)) ≡ true → (a ≡ true) × ((b ≡ true) ⊎ ((c ≡ true) ⊎ (d ≡ true)))
parts true true c d e = (refl, inl refl)
parts true false true d e = (refl, inr (inl refl))
parts true false false true e = (refl, inr (inr refl))
parts true false false false e = absurd (cc)
parts false b c d e = absurd (cc)

shows : (q : Question) (s : Sign) (time : ℕ) → (nat_le (time - q.since) 300 && ((not (is_same_kind s q.first) || is_repeats s) || nat_le 100 (time - q.since))) ≡ true → ShowAnother (sign_of q) (record { sign = s; time = time })
shows q s time e =
    let p = parts (nat_le (time - q.since) 300) (not (is_same_kind s q.first)) (is_repeats s) (nat_le 100 (time - q.since)) e in (
      nat_le_says (time - q.since) 300 p.0,
      ⊎_elim (λ n. inl (not_says (is_same_kind s q.first) n))
          (λ more. ⊎_elim (λ r. inr (inl (repeats_says s r))) (λ l. inr (inr (nat_le_says 100 (time - q.since) l))) more) p.1,
    )

-- a question that a sign decides, and that it does
record IsShown (o : Option Question) (s : Sign) (time : ℕ) : Type 0 where
  question : Question
  there : o ≡ Some question
  shown : ShowAnother (sign_of question) (record { sign = s; time = time })

shown_by : (o : Option Question) (s : Sign) (time : ℕ) → is_decided s time o ≡ true → IsShown o s time
shown_by None s time e = absurd (cc)
shown_by (Some q) s time e = record { question = q; there = refl; shown = shows q s time e }

pub two_signs : (g : Bool) (cs : List SignHeard) (last : SignHeard) → is_another last.sign last.time (after_signs g cs (record { last = None })) ≡ true
    → (first : SignHeard) × Has first cs × ShowAnother first last
two_signs g cs last e =
    let s = shown_by (after_signs g cs (record { last = None })).last last.sign last.time e in
    ⊎_elim (λ none. absurd (cc)) (λ has. (sign_of s.question, has, s.shown)) (began_with g cs (record { last = None }) s.question s.there)
