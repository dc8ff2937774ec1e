-- A loss of power among the writes, at the paths that are spoken of, is one of the whole view.
use Rattle.std.proofs.Common.{◌≡◌, ◌⊎◌, ℕ, List, [], ◌∷◌, ◌++◌, Option, Some, None, true, false, refl, sym, ap, ◌∙◌, subst, inl, inr, if◌then◌else◌, bytes_eq}
use Rattle.std.proofs.lemmas.Bool.{cases_Bool, cond-true, cond-false, true≢false}
use Rattle.gix_ref_files.specs.Tree.{Path}
use Rattle.gix_ref_theory.specs.Views.{View, Write, after_write, changed_at, file_bytes, LostIn, IsLostBy}
use Rattle.gix_ref_theory.specs.Views.Write.{Append, Put, Remove}
use Rattle.gix_ref_theory.specs.Views.{IsLeftByWrites}
use Rattle.gix_ref_theory.specs.Views.Ending.{Loss}
use Rattle.gix_ref_theory.proofs.Writes.{path_of, same, same_true}

module _ (Counts : Path → Type 0) where
  -- each write is at a path that is spoken of
  abbrev pub AllCount : List Write → Type 0
  AllCount [] = Unit {0}
  AllCount (write ∷ writes) = Counts (path_of write) × AllCount writes

  pub record Bare (writes : List Write) (view left : View) : Type 0 where
    pub bare : View
    pub ended : IsLeftByWrites Loss writes view bare
    pub alike : (q : Path) → Counts q → left q ≡ bare q

  here : (writes : List Write) (view : View) → IsLeftByWrites Loss writes view view
  here [] view = λ q. refl
  here (Append p bytes ∷ writes) view = inl (inl (λ q. refl))
  here (Put p bytes ∷ writes) view = inl (λ q. refl)
  here (Remove p ∷ writes) view = inl (λ q. refl)

  -- the new file at the write's own path, and the old ones elsewhere
  at_path : (p : Path) (file : Option (List ℕ)) (view left : View) → left p ≡ file → ((q : Path) → Counts q → (left q ≡ view q) ⊎ (p ≡ q)) → (q : Path) → Counts q → left q ≡ changed_at p file view q
  at_path p file view left is others q counts = by (cases_Bool (bytes_eq p q))
    where
      by : (bytes_eq p q ≡ true) ⊎ (bytes_eq p q ≡ false) → left q ≡ (if bytes_eq p q then file else view q)
      by (inl e) = sym (ap left (same p q e)) ∙ (is ∙ sym (cond-true (bytes_eq p q) file (view q) e))
      by (inr e) = elim (others q counts) [
        | inl old ↦ old ∙ sym (cond-false (bytes_eq p q) file (view q) e)
        | inr own ↦ absurd (true≢false (sym (same_true p q own) ∙ e))
      ]

  unchanged : (p : Path) (view left : View) → left p ≡ view p → ((q : Path) → Counts q → (left q ≡ view q) ⊎ (p ≡ q)) → (q : Path) → Counts q → left q ≡ view q
  unchanged p view left is others q counts = elim (others q counts) [ inl old ↦ old | inr own ↦ subst (λ (x : Path). left x ≡ view x) own is ]

  elsewhere : (write : Write) (view : View) (q : Path) (file : Option (List ℕ)) → LostIn write view q file → (file ≡ view q) ⊎ (path_of write ≡ q)
  elsewhere (Append p bytes) view q file (inl h) = inl h
  elsewhere (Append p bytes) view q file (inr h) = inr h.0
  elsewhere (Put p bytes) view q file (inl h) = inl h
  elsewhere (Put p bytes) view q file (inr h) = inr h.0
  elsewhere (Remove p) view q file (inl h) = inl h
  elsewhere (Remove p) view q file (inr h) = inr h.0

  in_write : (write : Write) (rest : List Write) (view left : View) → Counts (path_of write) → ((q : Path) → Counts q → LostIn write view q (left q)) → Bare (write ∷ rest) view left
  in_write (Append p bytes) rest view left counts lost = by (lost p counts)
    where
      others : (q : Path) → Counts q → (left q ≡ view q) ⊎ (p ≡ q)
      others q c = elsewhere (Append p bytes) view q (left q) (lost q c)

      by : LostIn (Append p bytes) view p (left p) → Bare (Append p bytes ∷ rest) view left
      by (inl old) = record { bare = view; ended = inl (inl (λ q. refl)); alike = unchanged p view left old others }
      by (inr (own, (any, few, is))) = record {
        bare = after_write (Append p any) view;
        ended = inl (inr (any, few, λ q. refl));
        alike = at_path p (Some (file_bytes (view p) ++ any)) view left is others;
      }
  in_write (Put p bytes) rest view left counts lost = by (lost p counts)
    where
      others : (q : Path) → Counts q → (left q ≡ view q) ⊎ (p ≡ q)
      others q c = elsewhere (Put p bytes) view q (left q) (lost q c)

      by : LostIn (Put p bytes) view p (left p) → Bare (Put p bytes ∷ rest) view left
      by (inl old) = record { bare = view; ended = inl (λ q. refl); alike = unchanged p view left old others }
      by (inr (own, is)) = record {
        bare = after_write (Put p bytes) view;
        ended = inr (here rest (after_write (Put p bytes) view));
        alike = at_path p (Some bytes) view left is others;
      }
  in_write (Remove p) rest view left counts lost = by (lost p counts)
    where
      others : (q : Path) → Counts q → (left q ≡ view q) ⊎ (p ≡ q)
      others q c = elsewhere (Remove p) view q (left q) (lost q c)

      by : LostIn (Remove p) view p (left p) → Bare (Remove p ∷ rest) view left
      by (inl old) = record { bare = view; ended = inl (λ q. refl); alike = unchanged p view left old others }
      by (inr (own, is)) = record {
        bare = after_write (Remove p) view;
        ended = inr (here rest (after_write (Remove p) view));
        alike = at_path p None view left is others;
      }

  pub bare_of : (writes : List Write) (view left : View) → AllCount writes → IsLostBy Counts writes view left → Bare writes view left
  bare_of [] view left count lost = record { bare = view; ended = λ q. refl; alike = lost }
  bare_of (write ∷ writes) view left count (inl lost) = in_write write writes view left count.0 lost
  bare_of (write ∷ writes) view left count (inr lost) =
      let b = bare_of writes (after_write write view) left count.1 lost in
      record { bare = b.bare; ended = inr b.ended; alike = b.alike }
