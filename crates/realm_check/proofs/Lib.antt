mod SizeLemmas
