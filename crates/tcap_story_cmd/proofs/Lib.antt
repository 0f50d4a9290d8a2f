mod TellingLemmas
