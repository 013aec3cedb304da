mod ImageLemmas
