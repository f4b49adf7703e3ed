-- A subset that was read is spelled by its words, and words that spell one are read as it.
use Rattle.std.proofs.Common.{◌≡◌, ℕ, true, ◌&&◌, leb, List, [], ◌∷◌, ◌++◌, length, Ok, Err, refl, ap, subst, ◌∙◌, arith, inl, inr}
use Rattle.std.specs.Prelude.{map, codes}
use Rattle.std.specs.Fmt.{signed_decimal}
use Rattle.std.specs.List.{list_all}
use Rattle.std.specs.Str.{bytes_eq}
use Rattle.std.proofs.lemmas.Bool.{and_from, and_parts, leb-true, le-leb}
use Rattle.fx_text.specs.Numbers.{fits_64}
use Rattle.fx_text.specs.Words.{Word}
use Rattle.fx_script.specs.declared.job.Picked.{Picked}
use Rattle.fx_script.specs.declared.job.Picked.TheVariants as picked
use Rattle.fx_script.specs.Left.{Left}
use Rattle.fx_script.specs.Outcome.{◌>>=◌}
use Rattle.fx_script.specs.Fields.{misfit, number_at, pair_at, pairs_from, pairs_at, strided_at, ranges_at, picked_at}
use Rattle.fx_script.specs.Spelling.{bytes_of, pair_fits, pairs_words, picked_words, picked_fits}
use Rattle.fx_script.proofs.FieldLemmas.{bind_ok, ok_is, chosen, front, texts, Behind, number_found, number_read_again, pair_found, pair_again, pairs_found, pairs_again}

-- a subset that was read
pub record ReadsPicked (before : List (List ℕ)) (left : Left) (x : Picked × Left) : Type 0 where
  pub fits : picked_fits x.0 ≡ true
  pub words : before ++ texts left ≡ picked_words x.0 ++ texts x.1

strided_found : (left : Left) (x : Picked × Left) → strided_at left ≡ Ok x → ReadsPicked (codes "strided" ∷ []) left x
strided_found left x e =
    let a = bind_ok (number_at left) (λ blocks. number_at blocks.1 >>= λ start. number_at start.1 >>= λ end. number_at end.1 >>= λ stride. Ok (picked.Strided blocks.0 start.0 end.0 stride.0, stride.1)) x e in
    let b = bind_ok (number_at a.0.1) (λ start. number_at start.1 >>= λ end. number_at end.1 >>= λ stride. Ok (picked.Strided a.0.0 start.0 end.0 stride.0, stride.1)) x a.2 in
    let c = bind_ok (number_at b.0.1) (λ end. number_at end.1 >>= λ stride. Ok (picked.Strided a.0.0 b.0.0 end.0 stride.0, stride.1)) x b.2 in
    let d = bind_ok (number_at c.0.1) (λ stride. Ok (picked.Strided a.0.0 b.0.0 c.0.0 stride.0, stride.1)) x c.2 in
    let a1 = number_found left a.0 a.1 in
    let b1 = number_found a.0.1 b.0 b.1 in
    let c1 = number_found b.0.1 c.0 c.1 in
    let d1 = number_found c.0.1 d.0 d.1 in
    subst (ReadsPicked (codes "strided" ∷ []) left) (ok_is (picked.Strided a.0.0 b.0.0 c.0.0 d.0.0, d.0.1) x d.2) (record {
      fits = and_from (fits_64 a.0.0 && fits_64 b.0.0 && fits_64 c.0.0) (fits_64 d.0.0) (and_from (fits_64 a.0.0 && fits_64 b.0.0) (fits_64 c.0.0) (and_from (fits_64 a.0.0) (fits_64 b.0.0) a1.0 b1.0) c1.0) d1.0;
      words = ap (λ (l : List (List ℕ)). codes "strided" ∷ l) (a1.1 ∙ ap (λ (l : List (List ℕ)). signed_decimal a.0.0 ∷ l) (b1.1 ∙ ap (λ (l : List (List ℕ)). signed_decimal b.0.0 ∷ l)
          (c1.1 ∙ ap (λ (l : List (List ℕ)). signed_decimal c.0.0 ∷ l) d1.1)));
    })

ranges_found : (left : Left) (x : Picked × Left) → ranges_at left ≡ Ok x → ReadsPicked (codes "ranges" ∷ []) left x
ranges_found left x e =
    let a = bind_ok (pairs_at left) (λ pairs. Ok (picked.Ranges pairs.0, pairs.1)) x e in
    let b = bind_ok (pair_at left) (λ pair. pairs_from 15 (pair.0 ∷ []) pair.1) a.0 a.1 in
    let first = pair_found left b.0 b.1 in
    let rest = pairs_found 15 (b.0.0 ∷ []) b.0.1 a.0 b.2 in
    let fit = rest.fit (and_from (pair_fits b.0.0) true first.0 refl) in
    subst (ReadsPicked (codes "ranges" ∷ []) left) (ok_is (picked.Ranges a.0.0, a.0.1) x a.2) (record {
      fits = and_from (list_all pair_fits a.0.0 && leb 1 (length a.0.0)) (leb (length a.0.0) 16) (and_from (list_all pair_fits a.0.0) (leb 1 (length a.0.0)) fit (le-leb 1 (length a.0.0) rest.least)) (le-leb (length a.0.0) 16 rest.most);
      words = ap (λ (l : List (List ℕ)). codes "ranges" ∷ l) (first.1 ∙ rest.words);
    })

picked_found_of : (ws : List Word) (past : ℕ) (x : Picked × Left) → picked_at (record { words = ws; past = past }) ≡ Ok x → (picked_fits x.0 ≡ true) × (map bytes_of ws ≡ picked_words x.0 ++ texts x.1)
picked_found_of [] past x e = absurd cc
picked_found_of (w ∷ ws) past x e =
    let left : Left = record { words = ws; past = past } in
    let Goal : Picked × Left → Type 0 = λ y. (picked_fits y.0 ≡ true) × (map bytes_of (w ∷ ws) ≡ picked_words y.0 ++ texts y.1) in
    elim (chosen (bytes_eq w.bytes (codes "full")) _ _ (Ok x) e) [
      | inl t ↦ subst Goal (ok_is (picked.Full, left) x t.1) (refl, front w ws past (codes "full") t.0)
      | inr e1 ↦ elim (chosen (bytes_eq w.bytes (codes "empty")) _ _ (Ok x) e1.1) [
        | inl t ↦ subst Goal (ok_is (picked.Empty, left) x t.1) (refl, front w ws past (codes "empty") t.0)
        | inr e2 ↦ elim (chosen (bytes_eq w.bytes (codes "strided")) _ _ (Ok x) e2.1) [
          | inl t ↦ let f = strided_found left x t.1 in (f.fits, front w ws past (codes "strided") t.0 ∙ f.words)
          | inr e3 ↦ elim (chosen (bytes_eq w.bytes (codes "ranges")) _ _ (Ok x) e3.1) [
            | inl t ↦ let f = ranges_found left x t.1 in (f.fits, front w ws past (codes "ranges") t.0 ∙ f.words)
            | inr e4 ↦ let none : Err (misfit w) ≡ Ok x = e4.1 in absurd cc
          ]
        ]
      ]
    ]

pub picked_found : (left : Left) (x : Picked × Left) → picked_at left ≡ Ok x → (picked_fits x.0 ≡ true) × (texts left ≡ picked_words x.0 ++ texts x.1)
picked_found left x e = picked_found_of left.words left.past x e

-- words to the end of the line that spell a subset
picked_again_of : (p : Picked) (ws : List Word) (past : ℕ) → picked_fits p ≡ true → map bytes_of ws ≡ picked_words p → Behind (picked_at (record { words = ws; past = past })) p []
picked_again_of picked.Full [] past fits e = absurd cc
picked_again_of picked.Full (w ∷ ws) past fits e =
    let same : w.bytes ≡ codes "full" = cc in
    record { left = record { words = ws; past = past }; read = rw same refl; others = cc }
picked_again_of picked.Empty [] past fits e = absurd cc
picked_again_of picked.Empty (w ∷ ws) past fits e =
    let same : w.bytes ≡ codes "empty" = cc in
    record { left = record { words = ws; past = past }; read = rw same refl; others = cc }
picked_again_of (picked.Strided blocks start end stride) [] past fits e = absurd cc
picked_again_of (picked.Strided blocks start end stride) (w ∷ ws) past fits e =
    let same : w.bytes ≡ codes "strided" = cc in
    let others : map bytes_of ws ≡ signed_decimal blocks ∷ signed_decimal start ∷ signed_decimal end ∷ signed_decimal stride ∷ [] = cc in
    let p = and_parts (fits_64 blocks && fits_64 start && fits_64 end) (fits_64 stride) fits in
    let q = and_parts (fits_64 blocks && fits_64 start) (fits_64 end) p.0 in
    let r = and_parts (fits_64 blocks) (fits_64 start) q.0 in
    let a = number_read_again (record { words = ws; past = past }) blocks (signed_decimal start ∷ signed_decimal end ∷ signed_decimal stride ∷ []) r.0 others in
    let b = number_read_again a.left start (signed_decimal end ∷ signed_decimal stride ∷ []) r.1 a.others in
    let c = number_read_again b.left end (signed_decimal stride ∷ []) q.1 b.others in
    let d = number_read_again c.left stride [] p.1 c.others in
    record { left = d.left; read = rw (same, a.read, b.read, c.read, d.read) refl; others = d.others }
picked_again_of (picked.Ranges pairs) [] past fits e = absurd cc
picked_again_of (picked.Ranges []) (w ∷ ws) past fits e = absurd cc
picked_again_of (picked.Ranges (p ∷ ps)) (w ∷ ws) past fits e =
    let same : w.bytes ≡ codes "ranges" = cc in
    let others : map bytes_of ws ≡ signed_decimal p.0 ∷ signed_decimal p.1 ∷ pairs_words ps = cc in
    let a = and_parts (list_all pair_fits (p ∷ ps) && leb 1 (length (p ∷ ps))) (leb (length (p ∷ ps)) 16) fits in
    let b = and_parts (list_all pair_fits (p ∷ ps)) (leb 1 (length (p ∷ ps))) a.0 in
    let all = and_parts (pair_fits p) (list_all pair_fits ps) b.0 in
    let most = leb-true (length (p ∷ ps)) 16 a.1 in
    let first = pair_again (record { words = ws; past = past }) p (pairs_words ps) all.0 others in
    let rest = pairs_again 15 (p ∷ []) ps first.left all.1 (omega arith) first.others in
    record { left = rest.0; read = rw (same, first.read, rest.1) refl; others = rest.2 }

pub picked_again : (left : Left) (p : Picked) → picked_fits p ≡ true → texts left ≡ picked_words p → Behind (picked_at left) p []
picked_again left p fits e = picked_again_of p left.words left.past fits e
