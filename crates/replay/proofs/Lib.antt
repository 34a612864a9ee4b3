-- Laws of the comparison with a result.
mod Words
