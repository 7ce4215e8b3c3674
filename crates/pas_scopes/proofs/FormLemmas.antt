-- Array, record and file types, by what is known of their parts.
use Rattle.std.proofs.Common.{ap, ℕ, ◌+◌, ◌<◌, arith, List, [], ◌∷◌, ◌++◌, length}
use Rattle.std.proofs.Common.{Option, Some, None}
use Rattle.pas_tokens.specs.declared.kinds.Kind.TheVariants as k
use Rattle.pas_syntax.specs.Words.{Word, at, maybe}
use Rattle.pas_typed.specs.Types.{fields, file, Made, made}
use Rattle.pas_scopes.specs.declared.stop.Stop.{Stop}
use Rattle.pas_rules.specs.Marks.{quiet, joined, Judged, judged, means, known, both, noted}
use Rattle.pas_rules.specs.TypeForms.{maybe_quiet, Indexes, Group, arrays, no_file, within_limit, component_only}
use Rattle.pas_rules.specs.TypeForms.{array_of, file_of, record_of}
use Rattle.pas_scopes.specs.Answers.{Ending, lawful_end, EndsAs, StopsBy, FailsBy, Means}
use Rattle.pas_scopes.specs.TypeAnswers.{file_part}
use Rattle.pas_rules.proofs.AsMany.{AsMany, behind_word, next_word, before_word, noted_many}
use Rattle.pas_rules.proofs.AsMany.{maybe_many}
use Rattle.pas_scopes.proofs.AnswerLemmas.{word_means, noted_stops_by, made_stops}
use Rattle.pas_scopes.proofs.SettleLemmas.{quiet_word}
use Rattle.pas_scopes.proofs.SequenceLemmas.{alone_ends, alone_stops, stops_before_word, stops_before_words}
use Rattle.pas_scopes.proofs.SequenceLemmas.{maybe_still, known_both}
use Rattle.pas_scopes.proofs.SequenceLemmas.{unknown_second, wrapped, wrapped_ends, wrapped_stops, revalued_ends}
use Rattle.pas_scopes.proofs.SequenceLemmas.{revalued_stops}

-- arrays
module _ (n line opened closed of_line : ℕ) (packed : Option ℕ) (index_words words : List Word)
    (indexes : Judged Indexes) (part : Judged Made) where
  abbrev element : Judged Made
  element = noted no_file part

  abbrev array_make : Indexes → Made → Made
  array_make found last = arrays last.table found.ranges last.type

  abbrev pub array_words : List Word
  array_words =
      maybe n k.Packed packed ++ at (n + 1) k.Array line ∷ (at (n + 2) k.LeftBracket opened
      ∷ (index_words ++ at (n + 2) k.RightBracket closed ∷ (at (n + 1) k.Of of_line ∷ words)))

  -- an array, however many cells it has
  abbrev pub array_part : Judged Made
  array_part =
      judged (joined (maybe_quiet packed ∷ quiet ∷ quiet ∷ indexes.marks ∷ quiet ∷ quiet ∷ element.marks ∷ []))
      (both array_make indexes.value element.value)

  abbrev of_part : Judged Made
  of_part = wrapped quiet (wrapped quiet (judged (joined (element.marks ∷ [])) element.value))

  abbrev index_part : Judged Made
  index_part = wrapped indexes.marks of_part

  abbrev of_words : List Word
  of_words = at (n + 2) k.RightBracket closed ∷ (at (n + 1) k.Of of_line ∷ words)

  pub array_ends : (found : Indexes) (value : Made) (end : Ending) → Means index_words indexes found
      → EndsAs words element value end → EndsAs array_words array_part (array_make found value) end
  array_ends found value end h e =
      revalued_ends array_words
      (joined (maybe_quiet packed ∷ quiet ∷ quiet ∷ indexes.marks ∷ quiet ∷ quiet ∷ element.marks ∷ []))
      element.value (both array_make indexes.value element.value) value (array_make found value) end
      (wrapped_ends (maybe n k.Packed packed)
      (at (n + 1) k.Array line ∷ (at (n + 2) k.LeftBracket opened ∷ (index_words ++ of_words))) (maybe_quiet packed)
      (wrapped quiet (wrapped quiet index_part)) (maybe_still n k.Packed packed) value end
      (wrapped_ends (at (n + 1) k.Array line ∷ []) (at (n + 2) k.LeftBracket opened ∷ (index_words ++ of_words)) quiet
      (wrapped quiet index_part) (quiet_word (at (n + 1) k.Array line)) value end
      (wrapped_ends (at (n + 2) k.LeftBracket opened ∷ []) (index_words ++ of_words) quiet index_part
      (quiet_word (at (n + 2) k.LeftBracket opened)) value end
      (wrapped_ends index_words of_words indexes.marks of_part h.quiet value end
      (wrapped_ends (at (n + 2) k.RightBracket closed ∷ []) (at (n + 1) k.Of of_line ∷ words) quiet
      (wrapped quiet (judged (joined (element.marks ∷ [])) element.value))
      (quiet_word (at (n + 2) k.RightBracket closed)) value end
      (wrapped_ends (at (n + 1) k.Of of_line ∷ []) words quiet
      (judged (joined (element.marks ∷ [])) element.value) (quiet_word (at (n + 1) k.Of of_line)) value end
      (alone_ends words element value end e)))))))
      (known_both array_make indexes.value element.value found value h.known e.known)

  behind_indexes : (why : Stop) → StopsBy (index_words ++ of_words) index_part why
      → StopsBy array_words (array_of packed indexes part) why
  behind_indexes why h =
      noted_stops_by array_words within_limit array_part why
      (revalued_stops array_words
      (joined (maybe_quiet packed ∷ quiet ∷ quiet ∷ indexes.marks ∷ quiet ∷ quiet ∷ element.marks ∷ []))
      element.value (both array_make indexes.value element.value) why
      (wrapped_stops (maybe n k.Packed packed)
      (at (n + 1) k.Array line ∷ (at (n + 2) k.LeftBracket opened ∷ (index_words ++ of_words))) (maybe_quiet packed)
      (wrapped quiet (wrapped quiet index_part)) (maybe_still n k.Packed packed) why
      (wrapped_stops (at (n + 1) k.Array line ∷ []) (at (n + 2) k.LeftBracket opened ∷ (index_words ++ of_words))
      quiet
      (wrapped quiet index_part) (quiet_word (at (n + 1) k.Array line)) why
      (wrapped_stops (at (n + 2) k.LeftBracket opened ∷ []) (index_words ++ of_words) quiet index_part
      (quiet_word (at (n + 2) k.LeftBracket opened)) why h)))
      (unknown_second array_make indexes.value element.value))

  -- checking stops in the indexes, or in the element
  pub array_index_stops : (why : Stop) → AsMany words part.marks → FailsBy index_words indexes.marks why
      → StopsBy array_words (array_of packed indexes part) why
  array_index_stops why many h =
      behind_indexes why
      (stops_before_word index_words (at (n + 1) k.Of of_line ∷ words) indexes.marks of_part.marks element.value why
      (at (n + 2) k.RightBracket closed)
      (next_word (at (n + 2) k.RightBracket closed) [] (joined (quiet ∷ element.marks ∷ []))
      (behind_word (at (n + 1) k.Of of_line) element.marks (noted_many no_file part many))) h)

  pub array_element_stops : (found : Indexes) (why : Stop) → Means index_words indexes found
      → StopsBy words part why → StopsBy array_words (array_of packed indexes part) why
  array_element_stops found why h e =
      behind_indexes why
      (wrapped_stops index_words of_words indexes.marks of_part h.quiet why
      (wrapped_stops (at (n + 2) k.RightBracket closed ∷ []) (at (n + 1) k.Of of_line ∷ words) quiet
      (wrapped quiet (judged (joined (element.marks ∷ [])) element.value))
      (quiet_word (at (n + 2) k.RightBracket closed)) why
      (wrapped_stops (at (n + 1) k.Of of_line ∷ []) words quiet
      (judged (joined (element.marks ∷ [])) element.value) (quiet_word (at (n + 1) k.Of of_line)) why
      (alone_stops words element why (noted_stops_by words no_file part why e)))))

-- files
module _ (n line of_line : ℕ) (packed : Option ℕ) (words : List Word) (part : Judged Made) where
  abbrev pub file_words : List Word
  file_words = maybe n k.Packed packed ++ at (n + 1) k.File line ∷ (at (n + 1) k.Of of_line ∷ words)

  abbrev file_alone : Judged Made
  file_alone = judged (joined ((file_part part).marks ∷ [])) (file_part part).value

  pub file_ends : (value : Made) (end : Ending) → EndsAs words (file_part part) value end
      → EndsAs file_words (file_of packed part) value end
  file_ends value end h =
      wrapped_ends (maybe n k.Packed packed) (at (n + 1) k.File line ∷ (at (n + 1) k.Of of_line ∷ words))
      (maybe_quiet packed) (wrapped quiet (wrapped quiet file_alone)) (maybe_still n k.Packed packed) value end
      (wrapped_ends (at (n + 1) k.File line ∷ []) (at (n + 1) k.Of of_line ∷ words) quiet (wrapped quiet file_alone)
      (quiet_word (at (n + 1) k.File line)) value end
      (wrapped_ends (at (n + 1) k.Of of_line ∷ []) words quiet file_alone (quiet_word (at (n + 1) k.Of of_line)) value
      end (alone_ends words (file_part part) value end h)))

  pub file_part_stops : (why : Stop) → StopsBy words (file_part part) why
      → StopsBy file_words (file_of packed part) why
  file_part_stops why h =
      wrapped_stops (maybe n k.Packed packed) (at (n + 1) k.File line ∷ (at (n + 1) k.Of of_line ∷ words))
      (maybe_quiet packed) (wrapped quiet (wrapped quiet file_alone)) (maybe_still n k.Packed packed) why
      (wrapped_stops (at (n + 1) k.File line ∷ []) (at (n + 1) k.Of of_line ∷ words) quiet (wrapped quiet file_alone)
      (quiet_word (at (n + 1) k.File line)) why
      (wrapped_stops (at (n + 1) k.Of of_line ∷ []) words quiet file_alone (quiet_word (at (n + 1) k.Of of_line)) why
      (alone_stops words (file_part part) why h)))

  pub file_stops : (why : Stop) → StopsBy words part why → StopsBy file_words (file_of packed part) why
  file_stops why h =
      file_part_stops why (made_stops words (λ (found : Made). made found.table (file found.type))
      (noted component_only part) why (noted_stops_by words component_only part why h))

-- records
module _ (n line end : ℕ) (packed semicolon : Option ℕ) (words : List Word) (group : Judged Group) where
  abbrev record_make : Group → Made
  record_make found = made found.table (fields found.fields)

  abbrev end_words : List Word
  end_words = maybe (n + 1) k.Semicolon semicolon ++ at (n + 1) k.End end ∷ []

  abbrev pub record_words : List Word
  record_words = maybe n k.Packed packed ++ at (n + 1) k.Record line ∷ (words ++ end_words)

  -- a record, however many cells it has
  abbrev pub record_part : Judged Made
  record_part =
      judged (joined (maybe_quiet packed ∷ quiet ∷ group.marks ∷ maybe_quiet semicolon ∷ quiet ∷ []))
      (known record_make group.value)

  abbrev end_part : Option Group → Judged Group
  end_part value = wrapped (maybe_quiet semicolon) (judged (joined (quiet ∷ [])) value)

  end_many : AsMany end_words (joined (maybe_quiet semicolon ∷ quiet ∷ []))
  end_many = before_word (at (n + 1) k.End end) (maybe_quiet semicolon) (maybe_many (n + 1) k.Semicolon semicolon)

  some_end : (line : Option ℕ) → 0 < length (maybe (n + 1) k.Semicolon line ++ at (n + 1) k.End end ∷ [])
  some_end None = omega arith
  some_end (Some line) = omega arith

  pub record_ends : (found : Group) → Means words group found
      → EndsAs record_words record_part (record_make found) (lawful_end end)
  record_ends found h =
      revalued_ends record_words
      (joined (maybe_quiet packed ∷ quiet ∷ group.marks ∷ maybe_quiet semicolon ∷ quiet ∷ []))
      (Some found) (known record_make group.value) found (record_make found) (lawful_end end)
      (wrapped_ends (maybe n k.Packed packed) (at (n + 1) k.Record line ∷ (words ++ end_words)) (maybe_quiet packed)
      (wrapped quiet (wrapped group.marks (end_part (Some found)))) (maybe_still n k.Packed packed) found
      (lawful_end end)
      (wrapped_ends (at (n + 1) k.Record line ∷ []) (words ++ end_words) quiet
      (wrapped group.marks (end_part (Some found))) (quiet_word (at (n + 1) k.Record line)) found (lawful_end end)
      (wrapped_ends words end_words group.marks (end_part (Some found)) h.quiet found (lawful_end end)
      (wrapped_ends (maybe (n + 1) k.Semicolon semicolon) (at (n + 1) k.End end ∷ []) (maybe_quiet semicolon)
      (judged (joined (quiet ∷ [])) (Some found)) (maybe_still (n + 1) k.Semicolon semicolon) found (lawful_end end)
      (alone_ends (at (n + 1) k.End end ∷ []) (means found) found (lawful_end end)
      (word_means (at (n + 1) k.End end) found))))))
      (ap (known record_make) h.known)

  pub record_stops : (why : Stop) → FailsBy words group.marks why
      → StopsBy record_words (record_of packed group semicolon) why
  record_stops why h =
      noted_stops_by record_words within_limit record_part why
      (wrapped_stops (maybe n k.Packed packed) (at (n + 1) k.Record line ∷ (words ++ end_words)) (maybe_quiet packed)
      (wrapped quiet (judged (joined (group.marks ∷ maybe_quiet semicolon ∷ quiet ∷ []))
      (known record_make group.value))) (maybe_still n k.Packed packed) why
      (wrapped_stops (at (n + 1) k.Record line ∷ []) (words ++ end_words) quiet
      (judged (joined (group.marks ∷ maybe_quiet semicolon ∷ quiet ∷ [])) (known record_make group.value))
      (quiet_word (at (n + 1) k.Record line)) why
      (stops_before_words words end_words group.marks (joined (maybe_quiet semicolon ∷ quiet ∷ []))
      (known record_make group.value) why (some_end semicolon) end_many h)))
