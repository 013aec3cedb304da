-- Two files are the same or not.
use Rattle.std.proofs.Common.{◌≡◌, ◌≢◌, ◌⊎◌, ℤ, pos, negsuc, inl, inr, refl}
use Rattle.std.proofs.lemmas.Bool.{cases_eq}
use Rattle.std.proofs.Common.{true, is_eq, Ordering, Less, Equal, Greater, ap₂, int_cmp}
use Rattle.std.specs.Ordering.{ordering_then, ordering_reverse}
use Rattle.std.proofs.lemmas.Cmp.{int_cmp_total}
use Rattle.std.proofs.lemmas.Map.Lookups.{exact_pairs, exact_signed}
use Rattle.disk_core.specs.FileNames.{file_cmp}
use Rattle.disk_core.specs.declared.file_id.FileId.{FileId}
use Rattle.disk_core.specs.declared.file_id.FileId.TheVariants.{BankA, BankB, Segment}

same_int : (x y : ℤ) → (x ≡ y) ⊎ (x ≢ y)
same_int (pos m) (pos n) = elim (cases_eq m n) [ inl is ↦ inl (λ i. pos (is i)) | inr not ↦ inr (λ e. not (cc)) ]
same_int (pos m) (negsuc n) = inr (λ e. cc)
same_int (negsuc m) (pos n) = inr (λ e. cc)
same_int (negsuc m) (negsuc n) = elim (cases_eq m n) [ inl is ↦ inl (λ i. negsuc (is i)) | inr not ↦ inr (λ e. not (cc)) ]

-- two files are the same, or differ
pub same_file : (a b : FileId) → (a ≡ b) ⊎ (a ≢ b)
same_file BankA BankA = inl refl
same_file BankA BankB = inr (λ e. cc)
same_file BankA (Segment r b) = inr (λ e. cc)
same_file BankB BankA = inr (λ e. cc)
same_file BankB BankB = inl refl
same_file BankB (Segment r b) = inr (λ e. cc)
same_file (Segment r b) BankA = inr (λ e. cc)
same_file (Segment r b) BankB = inr (λ e. cc)
same_file (Segment r b) (Segment q c) = elim (same_int r q) [
  | inl same ↦ elim (same_int b c) [ inl too ↦ inl (λ i. Segment (same i) (too i)) | inr not ↦ inr (λ e. not (cc)) ]
  | inr not ↦ inr (λ e. not (cc))
]

when_equal : (o : Ordering) → is_eq o ≡ true → o ≡ Equal
when_equal Less e = absurd (cc)
when_equal Equal e = refl
when_equal Greater e = absurd (cc)

own_reverse : (o : Ordering) → o ≡ ordering_reverse o → o ≡ Equal
own_reverse Less e = absurd (cc)
own_reverse Equal e = refl
own_reverse Greater e = absurd (cc)

-- the order of the files tells them apart
pub equal_files : (a b : FileId) → is_eq (file_cmp a b) ≡ true → a ≡ b
equal_files BankA BankA e = refl
equal_files BankA BankB e = absurd (cc)
equal_files BankA (Segment r b) e = absurd (cc)
equal_files BankB BankA e = absurd (cc)
equal_files BankB BankB e = refl
equal_files BankB (Segment r b) e = absurd (cc)
equal_files (Segment r b) BankA e = absurd (cc)
equal_files (Segment r b) BankB e = absurd (cc)
equal_files (Segment r b) (Segment q c) e =
    let same : (r, b) ≡ (q, c) = exact_pairs int_cmp int_cmp exact_signed exact_signed (r, b) (q, c) (when_equal (ordering_then (int_cmp r q) (int_cmp b c)) e) in
    λ i. Segment (same i).0 (same i).1

-- a file is equal to itself
pub file_cmp_self : (a : FileId) → file_cmp a a ≡ Equal
file_cmp_self BankA = refl
file_cmp_self BankB = refl
file_cmp_self (Segment r b) =
    let recording : int_cmp r r ≡ Equal = own_reverse (int_cmp r r) (int_cmp_total.antisymm r r) in
    let base : int_cmp b b ≡ Equal = own_reverse (int_cmp b b) (int_cmp_total.antisymm b b) in
    ap₂ ordering_then recording base
